-- Why places are those before all lifts.
pub mod Places
