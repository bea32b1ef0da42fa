pub mod Folding
pub mod Running
