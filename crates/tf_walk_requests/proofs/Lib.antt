pub mod Asking
mod Finding
pub mod Later
mod Memos
pub mod Reached
mod Stepping
