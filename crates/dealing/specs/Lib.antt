-- What the contracts of dealing cite.
pub mod Dealing
