-- Why the charges are the definition's.
pub mod Charging
