-- What the contracts of the order cite.
pub mod Runs
