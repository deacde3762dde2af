-- What pair-off does to the ledger's columns.
pub mod Pairs
