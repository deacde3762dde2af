-- What the contracts of the ranking cite.
pub mod Runs
pub mod Orders
