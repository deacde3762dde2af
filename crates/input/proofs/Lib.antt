-- Laws of bytes and their words, and of what a read answers.
pub mod Bytes
pub mod WordLaws
