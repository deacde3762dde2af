-- What the functions of this crate may count on, and what they leave.
pub mod Steps
