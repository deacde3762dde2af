-- Entries in the columns that a scan goes through.
pub mod Columns
