pub mod Holding
pub mod Asking
pub mod Calling
pub mod Lifting
