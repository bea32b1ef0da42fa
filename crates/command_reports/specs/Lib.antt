pub mod Findings
pub mod Reporting
