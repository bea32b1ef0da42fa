pub mod OrderLemmas
pub mod EntryOrder
pub mod FunctionLemmas
pub mod CallLemmas
pub mod RowLemmas
pub mod ReportLemmas
pub mod HiddenLemmas
