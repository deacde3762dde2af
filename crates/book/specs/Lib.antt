pub mod Nets
pub mod Rows
pub mod States
pub mod Cells
