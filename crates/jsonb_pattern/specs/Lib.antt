pub mod Flags
pub mod Letters
pub mod Meaning
pub mod Places
pub mod Translated
pub mod Views
