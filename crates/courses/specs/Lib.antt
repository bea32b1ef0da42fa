pub mod Statuses
pub mod Course
pub mod Reports
pub mod Help
pub mod FoldedReport
pub mod Answer
pub mod Contract
pub mod Standing
