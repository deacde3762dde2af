-- What the contracts of sizes cite.
pub mod Steps
