-- Laws of units in runs at any size.
pub mod Sized
