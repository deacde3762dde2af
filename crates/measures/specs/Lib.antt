-- What value_of and charge_of ask of their numbers, and how large their results are.
pub mod Range
