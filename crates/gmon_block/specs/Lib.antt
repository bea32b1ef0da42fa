pub mod Held
pub mod Layout
pub mod Lends
pub mod Memory
pub mod View
