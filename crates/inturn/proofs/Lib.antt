-- Why units are dealt as the definition deals them.
pub mod Dealing
