-- What is told of a unit, over lists of calls, in reading order.
pub mod Phases
pub mod Between
pub mod Staying
pub mod Lacking
pub mod Rows
