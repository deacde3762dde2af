pub mod Rights
pub mod Own
pub mod Secret
pub mod Kept
