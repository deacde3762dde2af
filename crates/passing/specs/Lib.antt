-- What a run does and prints.
pub mod Going
