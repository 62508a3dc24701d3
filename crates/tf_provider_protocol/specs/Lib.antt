pub mod Meaning
pub mod Schema
pub mod Verdict
