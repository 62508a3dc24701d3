pub mod Config
pub mod Names
pub mod Words
