pub mod DivisorLemmas
pub mod OrderLemmas
pub mod ValueLemmas
