-- Laws of the tape.
pub mod Reading
pub mod QuoteWords
pub mod Rest
pub mod Found
