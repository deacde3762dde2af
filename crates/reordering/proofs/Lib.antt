pub mod Same
pub mod Raised
pub mod Lists
pub mod Tallies
pub mod Theorem
pub mod Given
