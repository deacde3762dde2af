-- What the journal's functions answer.
pub mod Written
pub mod Told
