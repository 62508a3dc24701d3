pub mod Holdings
pub mod Laws
pub mod Plays
