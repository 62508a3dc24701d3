pub mod Written
pub mod Formed
pub mod OneLine
pub mod ReadBack
pub mod Lined
pub mod Beginnings
pub mod Passed
pub mod Replays
