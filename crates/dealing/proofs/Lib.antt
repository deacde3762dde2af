-- Why the units dealt are those of the definition, and where lifts move them.
pub mod Dealer
pub mod Fulls
