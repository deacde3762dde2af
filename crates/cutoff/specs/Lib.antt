-- What the contracts of the cutoff cite.
pub mod All
