-- Why the shares are right: sums, allotting, draws, the theorems of the shares and of the answer's words.
pub mod Sums
pub mod Allotting
pub mod Draws
pub mod Shares
pub mod Answered
