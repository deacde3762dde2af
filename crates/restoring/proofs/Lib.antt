-- Numbers and columns read back from words.
pub mod Words
