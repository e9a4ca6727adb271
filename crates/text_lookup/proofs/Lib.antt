pub mod FitLaws
pub mod SinkLaws
pub mod CanonLaws
