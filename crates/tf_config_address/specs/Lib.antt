pub mod ResourceAddr
pub mod Name
pub mod ObjectId
pub mod Same
