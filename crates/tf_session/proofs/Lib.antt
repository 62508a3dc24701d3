pub mod Kept
mod Only
mod Same
pub mod Served
mod Together
