pub mod Fault
pub mod Scan
pub mod Classes
pub mod Stop
pub mod Words
