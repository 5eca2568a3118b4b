mod Filling
pub mod Heading
pub mod Listing
mod Refusing
