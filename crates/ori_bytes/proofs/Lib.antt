pub mod Front
pub mod Groups
