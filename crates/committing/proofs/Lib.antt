-- What a commit hands on.
pub mod HandedOn
