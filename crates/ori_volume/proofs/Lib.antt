pub mod Pieces
pub mod Data
pub mod Torn
pub mod Lasting
pub mod RunSteps
pub mod Known
pub mod OnlyRead
