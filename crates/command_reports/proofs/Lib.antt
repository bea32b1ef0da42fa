pub mod FindingLemmas
pub mod Reporting
