pub mod Answering
pub mod Constants
pub mod Environment
pub mod ExprMeaning
pub mod Growth
pub mod Limits
pub mod Locality
pub mod Meaning
