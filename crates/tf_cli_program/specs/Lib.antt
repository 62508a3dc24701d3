pub mod Laws
pub mod Recovered
pub mod Recovery
pub mod Unrecovered
pub mod Work
