-- One part of a run.
pub mod Parting
