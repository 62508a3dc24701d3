pub mod Asking
pub mod Heads
pub mod Listed
pub mod Lists
pub mod Ordered
pub mod Pairs
pub mod Spread
pub mod Updated
