-- A fail inside a trust account: document 02, as definitions.
pub mod Reports
pub mod Lent
pub mod Allotting
pub mod Trust
pub mod Days
