-- Unit sizes on a simulated desk: document 02, F-7, as definitions.
pub mod Desk
pub mod Simulation
pub mod Days
