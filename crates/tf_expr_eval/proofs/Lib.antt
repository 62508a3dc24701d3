pub mod Alone
pub mod Entries
pub mod ExprGrowing
pub mod Finding
pub mod Growing
pub mod Locality
pub mod Rows
pub mod Within
