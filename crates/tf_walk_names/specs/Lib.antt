pub mod Resolving
pub mod Wanted
