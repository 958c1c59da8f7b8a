pub mod Adders
pub mod States
