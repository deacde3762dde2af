-- What the contracts of a round cite.
pub mod Turns
