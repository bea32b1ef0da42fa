pub mod FileReading
pub mod RecordLemmas
pub mod RunLemmas
