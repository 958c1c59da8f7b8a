pub mod LengthBytes
pub mod Onto
pub mod Heads
pub mod Reading
