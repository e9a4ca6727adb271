pub mod Lines
pub mod Session
pub mod Output
pub mod Arguments
pub mod Fault
pub mod Words
