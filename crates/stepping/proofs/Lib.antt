-- Why the steps are the definition's.
pub mod Stepping
pub mod Turns
