-- What the contract of the steps cites.
pub mod Steps
