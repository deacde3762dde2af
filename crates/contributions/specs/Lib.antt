-- Obligated funds for a default: document 02, F-8, and document 002, 3(2), as definitions.
pub mod Bases
pub mod Order
pub mod Rounds
pub mod Funds
pub mod Days
