-- Laws of what is added to a statement.
pub mod Numbers
