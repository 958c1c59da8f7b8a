pub mod Entries
pub mod Memos
pub mod Walk
pub mod Marks
