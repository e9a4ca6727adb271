pub mod Split
pub mod Forms
pub mod Answering
pub mod FormDecision
pub mod OneAnswer
pub mod SomeAnswer
