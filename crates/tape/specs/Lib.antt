-- What the contracts of the tape's reader cite.
pub mod Found
