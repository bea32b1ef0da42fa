pub mod Folding
pub mod Performing
pub mod Running
