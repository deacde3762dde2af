-- Why the cutoff is as the definitions say.
pub mod Going
pub mod Books
pub mod Turned
