-- Checksums of words.
pub mod Sums
pub mod Days
