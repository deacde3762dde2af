-- Why the stretches made are those of what waits.
pub mod Adding
pub mod Feeding
pub mod Spans
pub mod Gaps
pub mod Taking
pub mod Starting
