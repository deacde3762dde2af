-- Laws of the full units' words.
pub mod Words
