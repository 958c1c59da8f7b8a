pub mod Extents
pub mod Remainders
pub mod Writes
