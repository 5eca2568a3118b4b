pub mod Commits
pub mod Devices
pub mod Finishes
pub mod Held
pub mod Sends
pub mod Operating
