-- Why rounds in one run hand over the same again.
pub mod Leaping
