pub mod Lines
pub mod Saved
