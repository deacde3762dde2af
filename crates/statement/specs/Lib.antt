-- What a statement's functions may assume, and what they do.
pub mod Counting
