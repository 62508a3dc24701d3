pub mod Told
pub mod Outputs
pub mod Wanted
pub mod Input
pub mod Planned
pub mod Ordered
pub mod Plan
pub mod Refused
