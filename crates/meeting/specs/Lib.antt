-- What the contracts of one entry cite.
pub mod Meeting
