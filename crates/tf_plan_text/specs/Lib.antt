pub mod Beyond
pub mod Dot
pub mod Plain
pub mod Quoted
pub mod Reduction
pub mod Shown
pub mod Text
