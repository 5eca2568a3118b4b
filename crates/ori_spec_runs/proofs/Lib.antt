mod WorkedRuns
pub mod Legal
