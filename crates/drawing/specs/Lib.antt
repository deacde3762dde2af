-- What the marks' contracts cite.
pub mod Marks
