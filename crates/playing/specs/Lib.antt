-- What a run of the program cites.
pub mod Playing
