pub mod FractionLemmas
