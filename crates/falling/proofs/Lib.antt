-- Laws of places and falls.
pub mod Places
pub mod Seeking
pub mod Falling
