-- Why the scan of ledger and charges is the definition.
pub mod LedgerLaws
