pub mod Each
pub mod Clearing
pub mod Entries
pub mod Left
pub mod Zeros
pub mod Lots
pub mod Books
pub mod Same
