-- What the contracts of the whole simulation cite.
pub mod Steps
