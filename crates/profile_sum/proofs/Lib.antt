pub mod ClashLemmas
pub mod SumLemmas
pub mod ContentLemmas
pub mod SplitLemmas
pub mod SizeLemmas
pub mod LikeLemmas
