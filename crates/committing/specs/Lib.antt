-- What the contracts of a commit's parts cite.
pub mod Committing
