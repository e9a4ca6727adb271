pub mod FixedLaws
pub mod FormLaws
pub mod LayoutLaws
pub mod RowLaws
pub mod WrittenLaws
pub mod OneRowLaws
pub mod PlaceLaws
pub mod ToldLaws
