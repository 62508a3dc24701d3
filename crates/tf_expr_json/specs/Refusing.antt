-- The refusal of a fault of an expression.
use Rattle.std.specs.Prelude.{ℕ}
use Rattle.tf_expr_json.specs.Fault as faults
use Rattle.tf_expr_json.specs.declared.fault.ExprCause.{ExprCause}
use Rattle.tf_expr_json.specs.declared.fault.ExprCause.TheVariants as causes
use Rattle.tf_config_refusal.specs.declared.code.Code.TheVariants as code
use Rattle.tf_config_refusal.specs.Refusal.{RefusalView, Way, at, bare, fault, no_memory}

-- BadTemplate, with the byte offset
abbrev pub bad_template : ℕ → Way
bad_template offset = (code.BadTemplate, at offset)

-- Limit: a template that is too deep
abbrev pub too_deep : Way
too_deep = (code.Limit, bare)

-- the code and the detail for a fault of an expression
abbrev pub way_of : ExprCause → Way
way_of causes.BadShape = (code.BadShape, bare)
way_of (causes.At offset) = bad_template offset
way_of causes.TooDeep = too_deep

-- the refusal for a fault of an expression
abbrev pub refused_expression : faults.Told → RefusalView
refused_expression faults.no_memory = no_memory
refused_expression (faults.wrong place cause) = fault (way_of cause).0 place (way_of cause).1
