pub mod Refusals
pub mod Applies
