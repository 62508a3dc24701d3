pub mod BuffersHead
pub mod Dependencies
pub mod Head
pub mod MetadataUpdates
pub mod Needed
pub mod Place
pub mod Unchanged
