pub mod Clusters
pub mod Drops
pub mod Growing
pub mod Slots
pub mod Staging
