pub mod Prefixes
pub mod Places
pub mod Spelling
pub mod Cuts
