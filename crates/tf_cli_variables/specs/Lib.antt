pub mod Choice
pub mod Merge
pub mod Values
