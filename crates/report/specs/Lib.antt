-- Where text stands.
pub mod Added
pub mod Digits
pub mod Lines
pub mod Entries
