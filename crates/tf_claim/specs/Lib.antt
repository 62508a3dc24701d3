pub mod Claims
pub mod Ledger
pub mod Moments
pub mod Plays
pub mod Seats
pub mod Told
pub mod Views
