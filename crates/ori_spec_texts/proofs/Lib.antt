pub mod NoFloats
pub mod OneReading
mod WorkedTexts
