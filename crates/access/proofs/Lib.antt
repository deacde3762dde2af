pub mod Refusing
pub mod Placing
