-- What is taken from words, and what that needs.
pub mod Taking
