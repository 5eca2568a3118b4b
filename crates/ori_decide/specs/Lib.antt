pub mod Deciding
pub mod Leaving
pub mod Renaming
pub mod Steps
pub mod Told
