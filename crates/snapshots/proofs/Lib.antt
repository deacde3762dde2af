-- Why a snapshot can be relied on.
pub mod Seals
pub mod Words
pub mod Ranges
pub mod Theorems
