pub mod Names
mod Lookups
pub mod Rids
pub mod Staged
pub mod Overlays
pub mod Orders
pub mod Proper
pub mod Renamed
pub mod Kept
pub mod HistoryLaws
pub mod InFront
mod WorkedChanges
mod WorkedValues
