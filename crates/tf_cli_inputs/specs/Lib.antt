pub mod Texts
pub mod Refusals
pub mod Checked
