pub mod ProfileLemmas
pub mod PairLemmas
pub mod MarkLemmas
