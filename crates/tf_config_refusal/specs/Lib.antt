pub mod Code
pub mod Refusal
pub mod Text
pub mod Check
pub mod Place
pub mod Walk
