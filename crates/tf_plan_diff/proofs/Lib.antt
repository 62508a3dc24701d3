pub mod FewHidden
pub mod InOrder
pub mod Pushed
