pub mod OrderLemmas
pub mod PartLemmas
pub mod TableLemmas
pub mod StateLemmas
pub mod WideLemmas
pub mod FlowLemmas
