pub mod Asks
pub mod Memo
pub mod Progress
pub mod Stages
