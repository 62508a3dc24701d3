pub mod Answering
pub mod Limiting
pub mod Meanings
