-- A book of a state and its nine columns, as lent columns and as columns that are only read.
pub mod Books
