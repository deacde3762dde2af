-- What the contracts of gathering cite.
pub mod Gathering
