-- Laws that the functions' proofs cite.
pub mod Limits
pub mod Answers
