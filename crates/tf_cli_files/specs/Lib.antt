pub mod Assigned
pub mod Kept
pub mod Unfinished
pub mod Program
pub mod Sources
