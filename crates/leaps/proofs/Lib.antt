-- Laws of columns and of the room that a leap has.
pub mod Columns
