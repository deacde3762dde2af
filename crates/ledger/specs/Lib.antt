-- The ledger's five columns, and what is done to them.
pub mod Columns
pub mod Within
