pub mod Calls
pub mod Laws
pub mod Outside
pub mod Repeated
