pub mod Links
pub mod Nesting
pub mod Places
pub mod TreeCode
pub mod View
pub mod Comparing
pub mod Kinds
