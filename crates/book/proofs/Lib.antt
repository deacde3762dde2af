pub mod Signs
pub mod RowLaws
