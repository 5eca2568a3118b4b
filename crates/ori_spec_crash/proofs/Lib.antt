pub mod Marks
pub mod Composing
