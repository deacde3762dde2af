-- What the contracts of places and falls cite.
pub mod Places
