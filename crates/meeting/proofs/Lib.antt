-- What a record of one entry is.
pub mod Recording
