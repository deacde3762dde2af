-- What the contracts of serving cite.
pub mod Serving
