-- Why the list of markets is right, and the counts: all of them, nothing else, rising; the last net follows from the others;
-- fail entries of nets below a unit.
pub mod Listed
pub mod Chosen
pub mod Entries
pub mod Numbers
pub mod Laid
pub mod Booked
