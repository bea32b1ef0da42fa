pub mod Forms
pub mod FileRead
pub mod Runs
pub mod Viewed
