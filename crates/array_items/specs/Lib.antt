pub mod Blanks
pub mod Faults
pub mod Values
pub mod Arrays
pub mod ArrayTexts
pub mod Lines
pub mod Words
