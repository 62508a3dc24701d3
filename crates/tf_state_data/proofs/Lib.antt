pub mod Copied
pub mod Edits
pub mod Equal
pub mod OneChanged
pub mod OrderKept
pub mod Sorted
