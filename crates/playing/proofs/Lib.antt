-- Why the lines of a run are the definition's.
pub mod Sofar
