-- A book as words of a fixed number, and the book of words.
pub mod Words
pub mod Snapshot
pub mod Days
pub mod Faults
