pub mod Faults
pub mod Heads
pub mod Lending
pub mod Memory
pub mod Pages
pub mod Spaces
