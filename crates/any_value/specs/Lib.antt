pub mod Codes
pub mod Sizes
pub mod Views
pub mod Falls
pub mod MemberViews
pub mod Equal
pub mod Hashing
pub mod ListLengths
