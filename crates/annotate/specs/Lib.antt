pub mod Loaded
pub mod Cells
pub mod Listing
pub mod Laws
