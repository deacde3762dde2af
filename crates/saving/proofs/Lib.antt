-- Words stored one after the other, and the columns of a book.
pub mod Loops
pub mod Bytes
pub mod Laid
pub mod Signed
