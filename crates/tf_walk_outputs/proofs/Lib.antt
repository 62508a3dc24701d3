pub mod Done
pub mod Filled
pub mod Kept
pub mod Leading
pub mod Solved
