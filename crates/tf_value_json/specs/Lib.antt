pub mod Json
pub mod Fault
pub mod Plain
pub mod Text
pub mod Laws
