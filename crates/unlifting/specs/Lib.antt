-- What the contracts of places before lifts cite.
pub mod Unlifting
