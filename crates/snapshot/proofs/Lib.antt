-- Why a host that saves and opens again has the same book.
pub mod Hosts
pub mod Again
