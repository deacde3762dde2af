pub mod ByCaller
pub mod AskingBy
pub mod Secret
pub mod Fed
pub mod Contracts
pub mod Reordered
