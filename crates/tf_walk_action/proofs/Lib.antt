pub mod AskedRight
pub mod Calling
pub mod Storable
pub mod Judging
pub mod Lookup
pub mod Requesting
pub mod RequestsExist
pub mod StandingSoFar
