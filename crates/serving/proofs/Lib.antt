-- Why the units served are those of the definition.
pub mod Named
pub mod Served
