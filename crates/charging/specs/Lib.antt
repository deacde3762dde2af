-- What the contracts of charges cite.
pub mod Charging
