mod Alone
pub mod Answering
pub mod OutputValues
pub mod Shared
mod Wanting
