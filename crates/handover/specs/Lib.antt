-- What the contracts of the handover cite.
pub mod Walking
