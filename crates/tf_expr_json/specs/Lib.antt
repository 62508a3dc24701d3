pub mod Demand
pub mod Fault
pub mod FaultText
pub mod Laws
pub mod Opening
pub mod Reading
pub mod Refusing
pub mod Within
pub use Rattle.tf_expr_syntax.specs.ExprNames as Named
pub use Rattle.tf_expr_syntax.specs.ExprTree as Tree
pub use Rattle.tf_expr_syntax.specs.TemplateNames
pub use Rattle.tf_expr_syntax.specs.TemplateTree
pub use Rattle.tf_expr_template.specs.Spelling
