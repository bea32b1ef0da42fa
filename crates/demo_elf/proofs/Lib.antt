pub mod TextLemmas
pub mod SymbolLemmas
pub mod LengthLemmas
