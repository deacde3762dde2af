-- What the contracts of an issue's cutoff cite.
pub mod Write
pub mod Issue
