-- What is shown of a fails statement.
pub mod Turns
pub mod Cuts
pub mod Sums
pub mod Settling
pub mod Twelves
