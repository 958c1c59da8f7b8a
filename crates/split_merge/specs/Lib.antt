pub mod Codes
pub mod Canonical
pub mod Merged
pub mod Splits
pub mod Places
pub mod PartSteps
pub mod Cutting
