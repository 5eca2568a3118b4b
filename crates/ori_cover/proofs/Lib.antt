pub mod Homes
pub mod Given
pub mod Holding
pub mod Covering
pub mod Moments
pub mod HomeSteps
pub mod Logging
pub mod ReadLogs
pub mod ReadSteps
pub mod Views
pub mod Opening
mod Worked
