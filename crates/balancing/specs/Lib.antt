-- Soundness in the parts that a scan goes through.
pub mod Scan
pub mod EvenScan
