pub mod Direct
pub mod Quoted
pub mod AnyText
pub mod TextLine
pub mod ShowText
pub mod Samples
