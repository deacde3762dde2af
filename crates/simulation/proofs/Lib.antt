-- Theorems of the simulated desk.
pub mod Stops
pub mod Keeps
pub mod Leaps
pub mod Ending
pub mod First
pub mod Shown
