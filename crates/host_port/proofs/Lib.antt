pub mod Laws
pub mod Piecewise
pub mod SideLemmas
pub mod BufferLemmas
pub mod Chains
pub mod PerformingLemmas
pub mod LoadLemmas
pub mod EntryLemmas
