-- Why the code's answers are the definition's.
pub mod Giving
pub mod Answers
