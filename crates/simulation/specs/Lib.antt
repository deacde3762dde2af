-- What the theorems of a simulated desk cite: rounds that do the same again, and inventories that are shared.
pub mod Repeated
pub mod Shared
