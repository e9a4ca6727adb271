pub mod Cuts
pub mod Output
pub mod Replies
pub mod Running
pub mod OneOutput
