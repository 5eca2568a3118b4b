pub mod Data
pub mod Reading
pub mod Decisions
pub mod Refusals
pub mod Replies
pub mod Standing
