pub mod ArraySteps
pub mod ArrayTextBack
pub mod ArrayTextLaws
pub mod BlankSteps
pub mod ValueSteps
