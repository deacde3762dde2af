-- What opening judges, and what it answers.
pub mod Judging
