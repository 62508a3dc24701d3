pub mod Fitting
pub mod Prepared
pub mod PreparedMany
pub mod Workers
