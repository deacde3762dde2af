-- What the contract of equal rounds cites.
pub mod Room
