pub mod Shares
pub mod Parts
pub mod Ranges
pub mod Laws
