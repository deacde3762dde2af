-- Laws of a day.
pub mod Closing
