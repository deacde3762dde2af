-- Laws of the weighted sum.
pub mod Weights
pub mod Bounds
