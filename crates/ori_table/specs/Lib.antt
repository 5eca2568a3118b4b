pub mod Kept
pub mod Data
pub mod Staged
