-- Worked days on whole books: the books, then what is told of them.
pub mod Books
pub mod Days
pub mod TurnDays
pub mod AccessDays
