pub mod Outlines
pub mod Seams
pub mod Flat
pub mod Cuts
pub mod Heads
pub mod Samples
