pub mod Numerals
pub mod ItemLemmas
pub mod PlaceLemmas
pub mod WordLemmas
