-- What a call in place may assume of the columns lent to it, and what it answers.
pub mod Turns
