pub mod Causes
pub mod Disk
pub mod Effects
pub mod OnlyRead
pub mod Runs
pub mod Story
pub mod Streams
