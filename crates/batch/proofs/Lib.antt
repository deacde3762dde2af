-- Laws of instructions answered in turn.
pub mod Batches
pub mod Stepping
pub mod Turns
pub mod Fed
pub mod Contracts
