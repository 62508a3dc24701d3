pub mod Copied
pub mod ExprViews
pub mod Finding
