pub mod Listed
pub mod Named
pub mod Valued
pub mod One
