pub mod Serving
pub mod Asking
pub mod Turned
pub mod Counted
pub mod Keeping
