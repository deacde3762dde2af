-- Why a ticket is as the definition says.
pub mod Standing
pub mod Places
pub mod Tickets
