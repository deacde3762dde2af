-- What the contracts of leaps cite.
pub mod Rooms
