-- Why a report's size is as the definition says.
pub mod Sizes
