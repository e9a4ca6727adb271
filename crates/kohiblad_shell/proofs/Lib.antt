pub mod InputLaws
pub mod RunLaws
pub mod PassedLaws
pub mod ValueLaws
pub mod EscapeLaws
pub mod SortLaws
pub mod KeptLaws
pub mod KeyLaws
pub mod KeyOrderLaws
pub mod RemovalLaws
pub mod MemberLaws
pub mod GroupLaws
pub mod GroupedLaws
pub mod GroupRowLaws
pub mod GroupingLaws
pub mod DatedLaws
mod IsoLaws
pub mod ExtractLaws
mod FoundLaws
pub mod TemplateLaws
pub mod ArgumentLaws
pub mod MergeLaws
pub mod MergeSteps
mod OrderLaws
mod SizeLaws
mod SortedRunLaws
mod SortedRunSteps
mod SortedRunEnds
