pub mod Places
pub mod Branching
pub mod Accesses
pub mod Products
pub mod OperationLemmas
pub mod StepEnds
pub mod KeptByStep
pub mod MemoryMap
