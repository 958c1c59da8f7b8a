pub mod ProfileLine
pub mod Showing
