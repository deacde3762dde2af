-- What the contracts of what waits cite.
pub mod Waiting
