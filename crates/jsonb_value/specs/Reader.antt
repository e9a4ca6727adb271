-- Reading a text from its start, in the steps of the parser's own functions. No public contract
-- cites these definitions.
pub mod Reading
pub mod Gives
pub mod Digits
pub mod Kind
pub mod Content
pub mod Resume
pub mod OpenKinds
pub mod IsAt
pub mod TreesHeld
pub mod IsWithin
