-- The reason a unit has not come, as definitions.
pub mod Status
pub mod Days
