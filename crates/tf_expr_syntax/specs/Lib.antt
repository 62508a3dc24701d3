pub mod Adding
pub mod EvalFault
pub mod ExprNames
pub mod ExprTree
pub mod Function
pub mod TemplateNames
pub mod TemplateTree
