-- What the contracts of the scan of lifts cite.
pub mod LiftScan
