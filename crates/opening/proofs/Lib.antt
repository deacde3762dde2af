-- The questions on words, and the book of words by the places of its columns.
pub mod Sealing
pub mod Reading
