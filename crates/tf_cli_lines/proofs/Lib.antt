pub mod Writes
mod RefusalLines
