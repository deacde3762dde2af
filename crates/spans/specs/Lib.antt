-- Fails statement over a span: document 02, F-13, as definitions.
pub mod Span
pub mod Statement
pub mod Days
