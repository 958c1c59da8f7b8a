pub mod Limits
pub mod PartNames
pub mod Plan
