pub mod Diff
pub mod Safe
pub mod Symbols
