-- What is added to a statement.
pub mod Counting
