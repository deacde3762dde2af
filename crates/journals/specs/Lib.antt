-- The journal of calls, as definitions.
pub mod Record
pub mod Journal
pub mod Replay
pub mod Days
