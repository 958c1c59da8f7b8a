pub mod Bounds
pub mod Cuts
pub mod LastPlaces
pub mod Growth
pub mod Marks
