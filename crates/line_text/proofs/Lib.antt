pub mod Following
pub mod Lines
mod Digits
mod Runs
mod Sinking
mod Lists
