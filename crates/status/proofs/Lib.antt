pub mod UpTo
pub mod Telling
