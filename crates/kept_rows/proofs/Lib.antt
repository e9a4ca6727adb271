pub mod FirstLaws
pub mod TopLaws
