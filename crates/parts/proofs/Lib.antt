pub mod Lengths
pub mod Sizes
pub mod Rows
pub mod Spelling
pub mod Values
pub mod LastHeads
