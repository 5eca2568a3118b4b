pub mod Committing
pub mod Counts
pub mod Homes
pub mod Parts
pub mod Turns
pub mod Idle
pub mod Unchanged
