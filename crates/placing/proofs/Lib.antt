-- Why the scan of lifts is the definition.
pub mod LiftLaws
