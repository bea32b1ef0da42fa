pub mod Fields
pub mod Solution
pub mod Arcs
pub mod ExactSolution
pub mod Proportion
pub mod Functions
