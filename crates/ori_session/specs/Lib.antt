pub mod Statements
pub mod Sessions
pub mod Fronts
pub mod Reads
pub mod Rows
pub mod Commits
pub mod InPlace
pub mod Runs
