pub mod Running
pub mod Writes
pub mod Places
pub mod Kept
pub mod Marks
