-- What the tape's writer promises.
pub mod Answers
