pub mod Answers
pub mod Mode
pub mod Schema
pub mod Wanted
