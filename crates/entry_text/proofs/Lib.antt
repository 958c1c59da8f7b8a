pub mod Pieces
pub mod Dictionaries
mod Measures
