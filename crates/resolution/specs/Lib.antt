-- What resolve does to the ledger's columns and to the lent output.
pub mod Resolving
