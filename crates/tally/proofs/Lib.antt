-- Demand 3, in reading order.
pub mod Signs
pub mod Invariant
pub mod Shown
pub mod Taking
pub mod Delivering
pub mod Lifting
pub mod Cutting
pub mod Resolving
pub mod PairingOff
pub mod Rolling
pub mod Marking
pub mod Demand
pub mod Reached
pub mod Made
pub mod Callers
pub mod Settles
pub mod Corollaries
