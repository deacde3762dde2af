pub mod Scans
pub mod Asking
pub mod Turned
