pub mod Faultless
pub mod Refusals
pub mod Walked
pub mod Within
pub use Rattle.tf_expr_syntax.proofs.ExprViews as Views
