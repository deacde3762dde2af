pub mod Meeting
pub mod Books
pub mod Turned
