pub mod Cuts
mod Numerals
pub mod Forms
mod Decimals
mod LineParts
pub mod Splitting
pub mod Reading
mod Bodies
mod Buffers
mod Readings
mod StepLemmas
mod Promptness
mod JsonLists
pub mod Histories
mod Printed
