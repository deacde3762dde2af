-- Units handed over one by one.
pub mod Handing
