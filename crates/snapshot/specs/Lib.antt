-- What a host's snapshot answers.
pub mod Host
