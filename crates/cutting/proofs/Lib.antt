-- Why an issue's cutoff is as the definitions say.
pub mod Writing
pub mod Fails
pub mod Laying
pub mod Issues
pub mod Cutting
