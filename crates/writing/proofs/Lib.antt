-- Laws of the writer.
pub mod Fitting
pub mod Writing
