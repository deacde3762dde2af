pub mod Asking
pub mod Committing
