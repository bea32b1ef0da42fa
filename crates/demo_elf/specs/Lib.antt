pub mod Code
pub mod Elf
pub mod Symbols
