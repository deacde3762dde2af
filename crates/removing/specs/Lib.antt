-- What the contracts of taking entries out cite.
pub mod Moves
