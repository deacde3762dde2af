-- What the contracts of looking along columns cite.
pub mod Places
