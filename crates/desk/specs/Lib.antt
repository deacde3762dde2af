-- How an answer leaves for a host.
pub mod Plain
pub mod Fields
pub mod Words
