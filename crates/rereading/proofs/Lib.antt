-- What is written is read, what is read is written; a tape in parts.
pub mod Table
pub mod Sized
pub mod There
pub mod Back
pub mod Run
pub mod Window
pub mod Rolls
