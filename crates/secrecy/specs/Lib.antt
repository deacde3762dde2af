pub mod Requests
pub mod Cases
pub mod Secrecy
