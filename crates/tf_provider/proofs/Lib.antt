pub mod Marks
mod Following
