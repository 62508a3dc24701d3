pub mod Changes
pub mod Views
