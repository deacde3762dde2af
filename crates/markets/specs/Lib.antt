-- Every small market, each once: document 02, F-12, as definitions.
pub mod Markets
pub mod Counts
pub mod Answers
pub mod Choices
pub mod Days
