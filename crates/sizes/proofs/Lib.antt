-- Laws of a round with its leap, of the opening and of the answer.
pub mod Repeating
pub mod Stepping
pub mod Opening
pub mod Answers
