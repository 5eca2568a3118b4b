pub mod Spelling
pub mod Names
pub mod Laws
pub mod Reading
pub mod Seen
pub mod Writing
pub mod Writable
