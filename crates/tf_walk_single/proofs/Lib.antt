pub mod EndedAction
pub mod Entered
pub mod Memos
pub mod Seen
pub mod SoFar
pub mod Stages
