pub mod Stores
pub mod Output
pub mod Fields
