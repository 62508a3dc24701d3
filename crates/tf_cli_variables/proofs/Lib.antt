mod Choices
mod Given
mod Puts
pub mod Splits
