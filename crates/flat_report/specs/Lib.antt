pub mod Sources
pub mod Order
pub mod Entries
pub mod Hidden
pub mod FlatText
pub mod Reports
pub mod Rows
