pub mod AtMostLemmas
pub mod RowLemmas
pub mod SumLemmas
