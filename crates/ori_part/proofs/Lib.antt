mod Looking
pub mod Held
pub mod Places
mod Settling
