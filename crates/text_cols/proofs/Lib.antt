pub mod Lengths
pub mod SpaceLemmas
