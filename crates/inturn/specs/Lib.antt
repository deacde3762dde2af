-- What the contracts of dealing in turn cite.
pub mod InTurn
