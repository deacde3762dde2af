-- What the contracts of tickets cite.
pub mod Tickets
