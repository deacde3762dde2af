-- What the contracts of shares cite.
pub mod Steps
