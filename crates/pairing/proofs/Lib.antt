pub mod Joining
pub mod Books
pub mod Turned
pub mod NoStep
