pub mod Action
pub mod Precedence
pub mod Address
pub mod Fits
pub mod Plan
pub mod Served
pub mod Words
