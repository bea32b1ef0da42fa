pub mod Fractions
pub mod Values
pub mod OrderLaws
