pub mod Numbers
pub mod Verbs
pub mod Options
pub mod Items
pub mod Words
