-- What the contracts of handing on cite.
pub mod Runs
