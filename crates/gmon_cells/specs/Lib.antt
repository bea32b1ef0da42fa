pub mod Cells
pub mod FileText
pub mod RunRecords
pub mod Views
