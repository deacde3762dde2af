-- Why what is kept is what waits.
pub mod Waits
