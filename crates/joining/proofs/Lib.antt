-- Laws of handing over by runs.
pub mod Joining
