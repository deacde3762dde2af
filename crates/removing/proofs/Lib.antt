-- Why entries at 0 go and the others stay.
pub mod Looking
pub mod Moving
pub mod Sweeping
