pub mod Changed
pub mod Over
pub mod Steps
