pub mod Numbered
pub mod LineLemmas
