-- Why the shares are right: lists filled and read, bases, the order, the rounds, the theorems of the shares and of the answers.
pub mod Lists
pub mod Bases
pub mod Order
pub mod Rounds
pub mod Turns
pub mod Shares
pub mod Answered
