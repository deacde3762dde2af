-- What a step along the units says.
pub mod Questions
