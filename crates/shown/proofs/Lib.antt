pub mod Meant
pub mod Visible
pub mod Appended
pub mod Written
