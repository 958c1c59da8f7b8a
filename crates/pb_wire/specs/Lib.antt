pub mod View
pub mod Answers
pub mod Parts
pub mod TableKinds
