pub mod Document
pub mod Laws
pub mod Members
pub mod Parts
pub mod Prior
pub mod Reasons
pub mod Views
