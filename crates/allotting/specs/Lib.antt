-- What the contracts of bases and rounds cite.
pub mod Steps
