-- Laws of the journal's functions.
pub mod Laid
pub mod Again
pub mod Stored
pub mod Contracts
