-- Laws of a statement counted along a run.
pub mod Counted
