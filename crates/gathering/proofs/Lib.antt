-- Why gathered runs are the stretches.
pub mod Gathers
