pub mod HeaderLemmas
pub mod Summing
pub mod Accepting
