pub mod Asks
pub mod Turned
