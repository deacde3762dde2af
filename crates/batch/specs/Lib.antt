-- Instructions of some words, answered on one book in turn.
pub mod Batch
pub mod Days
