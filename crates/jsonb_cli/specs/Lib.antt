pub mod Words
pub mod Commands
pub mod Grammar
pub mod AnswerLine
pub mod Each
pub mod Answers
pub mod Fault
pub mod Names
