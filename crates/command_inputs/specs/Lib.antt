pub mod Totals
pub mod Reading
