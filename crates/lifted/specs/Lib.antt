-- What the contracts of lifts cite.
pub mod Lifting
