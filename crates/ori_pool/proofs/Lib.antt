mod Answering
mod Contents
mod Ended
pub mod Held
mod Holding
mod Installing
mod Operations
mod Reading
mod Seen
mod GoingHome
mod Settled
