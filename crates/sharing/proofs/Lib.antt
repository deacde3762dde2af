-- Why a group takes lots as the definition says.
pub mod Groups
