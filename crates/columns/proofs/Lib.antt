-- Laws of lent columns.
pub mod Same
