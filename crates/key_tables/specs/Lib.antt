pub mod ByPlace
pub mod Keys
