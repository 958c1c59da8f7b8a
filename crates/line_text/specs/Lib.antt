pub mod Putting
pub mod Counting
pub mod Pairs
pub mod Signs
pub mod Pens
pub mod PenLaws
