pub mod FirstRows
pub mod TopRows
