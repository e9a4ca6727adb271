pub mod Question
pub mod Words
