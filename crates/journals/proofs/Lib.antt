-- Theorems of the journal.
pub mod Checked
pub mod Parts
pub mod There
pub mod Unread
pub mod Back
pub mod Replayed
