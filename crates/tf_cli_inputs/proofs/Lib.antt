pub mod Few
mod Named
