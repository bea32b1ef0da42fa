pub mod Setup
pub mod CutWords
