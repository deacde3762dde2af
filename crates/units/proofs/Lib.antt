-- Why the order is as the definitions say.
pub mod Steps
pub mod Begins
