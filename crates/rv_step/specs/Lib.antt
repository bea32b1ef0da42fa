pub mod Alu
pub mod Loading
pub mod Memory
pub mod Registers
pub mod Step
