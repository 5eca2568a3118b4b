pub mod Rows
pub mod Outcomes
pub mod Images
pub mod Stage
