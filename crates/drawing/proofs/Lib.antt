-- Why a number that is drawn twice is seen.
pub mod Marks
