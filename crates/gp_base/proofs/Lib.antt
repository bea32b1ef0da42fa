pub mod LittleEndian
pub mod Cutting
pub mod FieldLemmas
pub mod Overwriting
pub mod Searching
