pub mod Homes
pub mod Dirty
pub mod Given
pub mod Cover
pub mod Steps
pub mod Reading
pub mod Views
