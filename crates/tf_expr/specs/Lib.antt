pub mod Looked
pub mod WithinLimits
pub use Rattle.tf_expr_json.specs.Demand
pub use Rattle.tf_expr_json.specs.Fault
pub use Rattle.tf_expr_json.specs.FaultText
pub use Rattle.tf_expr_json.specs.Laws as ReadingLaws
pub use Rattle.tf_expr_json.specs.Opening
pub use Rattle.tf_expr_json.specs.Reading
pub use Rattle.tf_expr_json.specs.Refusing
pub use Rattle.tf_expr_json.specs.Within
pub use Rattle.tf_expr_syntax.specs.EvalFault
pub use Rattle.tf_expr_syntax.specs.ExprNames as Named
pub use Rattle.tf_expr_syntax.specs.ExprTree as Tree
pub use Rattle.tf_expr_syntax.specs.TemplateNames
pub use Rattle.tf_expr_syntax.specs.TemplateTree
pub use Rattle.tf_expr_json.specs.Spelling
pub use Rattle.tf_expr_operators.specs.Answer
pub use Rattle.tf_expr_operators.specs.Bounded
pub use Rattle.tf_expr_operators.specs.Found
pub use Rattle.tf_expr_eval.specs.Constants
pub use Rattle.tf_expr_eval.specs.Environment
pub use Rattle.tf_expr_eval.specs.ExprMeaning
pub use Rattle.tf_expr_eval.specs.Growth
pub use Rattle.tf_expr_eval.specs.Limits
pub use Rattle.tf_expr_eval.specs.Locality
pub use Rattle.tf_expr_eval.specs.Meaning
