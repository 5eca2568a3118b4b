mod Answering
mod Applied
pub mod Decisions
mod Entries
mod InPlace
pub mod Ordered
mod Walks
