pub mod BucketLemmas
pub mod OrderLemmas
pub mod SumLemmas
pub mod WalkLemmas
pub mod PartLemmas
pub mod SpanLemmas
pub mod CoverLemmas
pub mod RangeLemmas
