pub mod Merge
pub mod Parts
pub mod Occurrences
pub mod Eights
pub mod Prefixes
pub mod RowTexts
pub mod Utf8
pub mod Types
