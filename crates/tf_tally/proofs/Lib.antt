pub mod Keeping
pub mod Steps
pub mod Seating
pub mod Sharing
