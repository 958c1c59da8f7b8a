pub mod Parts
pub mod Sums
pub mod LastHeads
pub mod Records
pub mod Values
