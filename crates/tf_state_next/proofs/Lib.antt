pub mod Afterwards
pub mod SavedCounted
pub mod Crowded
pub mod Hex
pub mod Kept
pub mod Keys
pub mod OneAfter
pub mod Places
pub mod Rooms
pub mod Added
pub mod Changing
pub mod Composed
mod Counted
mod Near
pub mod Finding
pub mod One
pub mod OneByOne
pub mod Pending
pub mod Reversed
pub mod Validity
