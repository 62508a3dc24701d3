pub mod Checks
pub mod Places
pub mod Walks
