pub mod Reach
pub mod Each
pub mod Pushed
