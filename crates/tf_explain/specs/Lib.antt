pub mod Passing
pub mod Spans
