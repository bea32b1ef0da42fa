pub mod CellLemmas
pub mod LoadedLemmas
