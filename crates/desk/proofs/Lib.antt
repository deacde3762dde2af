-- Numbers that have an instruction, and numbers that have none.
pub mod Numbered
