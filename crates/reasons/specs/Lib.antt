pub mod Lists
pub mod Days
