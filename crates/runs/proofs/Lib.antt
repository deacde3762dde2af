-- Why runs are the units that the definitions say.
pub mod Cells
pub mod Units
pub mod Loops
pub mod Numbers
pub mod Words
