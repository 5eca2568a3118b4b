pub mod Pieces
pub mod Lines
pub mod LineReading
pub mod LineForms
pub mod LineSteps
pub mod Printing
pub mod Fronts
