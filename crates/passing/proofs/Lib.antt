-- Laws of a run whose words come in parts.
pub mod Goings
pub mod Passing
