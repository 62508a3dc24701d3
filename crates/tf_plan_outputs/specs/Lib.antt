pub mod Changes
pub mod Laws
pub mod Objects
pub mod Views
