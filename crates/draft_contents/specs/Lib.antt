pub mod Contents
pub mod Singles
pub mod Adding
pub mod Repeats
pub mod Meanings
pub mod Draft
pub mod Marks
