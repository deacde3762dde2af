-- Laws of handing over by runs, of turns and of a round.
pub mod Joins
pub mod Turning
pub mod Rounding
