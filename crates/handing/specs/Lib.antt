-- What the contracts of handing over cite.
pub mod Handing
