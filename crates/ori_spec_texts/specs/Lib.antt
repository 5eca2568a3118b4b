pub mod Json
pub mod Statement
pub mod Line
pub mod Reply
