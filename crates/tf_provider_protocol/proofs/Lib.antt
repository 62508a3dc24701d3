pub mod Placed
pub mod Counted
