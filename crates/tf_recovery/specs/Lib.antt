pub mod Calls
pub mod Outcome
