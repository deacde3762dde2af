-- Laws of the text and of signs.
pub mod Texts
pub mod Spelled
