pub mod Lookup
pub mod Sink
