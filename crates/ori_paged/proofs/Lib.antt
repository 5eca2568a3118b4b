pub mod RecordForms
pub mod SameBase
pub mod Putting
pub mod PageRows
pub mod OneBase
