pub mod Reads
pub mod Ready
pub mod ReadLaws
pub mod Pools
