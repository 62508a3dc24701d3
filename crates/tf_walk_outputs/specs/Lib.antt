pub mod Buffers
pub mod Keeping
pub mod OutputLaws
pub mod Outputs
pub mod Settled
