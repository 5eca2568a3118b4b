pub mod Places
pub mod Left
pub mod Made
pub mod Sorted
pub mod Changed
pub mod Ready
mod WorkedRecord
mod WorkedPages
