pub mod CellLemmas
pub mod RefusalLemmas
pub mod LogFitLemmas
pub mod PuttingLemmas
