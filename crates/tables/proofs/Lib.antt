mod Search
pub mod Places
pub mod Interning
mod ChainSteps
mod KeyRuns
