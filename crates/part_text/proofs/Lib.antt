pub mod Writes
pub mod Varints
pub mod Steps
pub mod Remainders
pub mod Positions
pub mod Endings
