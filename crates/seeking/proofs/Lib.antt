-- Why what is looked over has nothing in it, and what is owed.
pub mod Passing
pub mod Owing
