-- What the contracts of stretching cite.
pub mod Adding
pub mod Spans
pub mod Gaps
