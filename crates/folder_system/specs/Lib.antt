pub mod Kinds
pub mod Names
pub mod Found
pub mod Events
pub mod Entries
pub mod Place
pub mod Disk
pub mod Memory
