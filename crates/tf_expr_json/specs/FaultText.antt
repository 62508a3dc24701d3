-- The texts of faults.
use Rattle.std.specs.Prelude.{ℕ, List, ◌++◌, codes}
use Rattle.std.specs.Fmt.{decimal}
use Rattle.tf_expr_json.specs.Fault.{Told, no_memory, wrong}
use Rattle.tf_expr_json.specs.declared.fault.ExprCause.{ExprCause}
use Rattle.tf_expr_json.specs.declared.fault.ExprCause.TheVariants.{BadShape, At, TooDeep}

-- what is wrong
abbrev pub cause_text : ExprCause → List ℕ
cause_text BadShape = codes "no expression"
cause_text (At offset) = codes "no template from byte " ++ decimal offset ++ codes " on"
cause_text TooDeep = codes "a template that is too deep"

-- what is wrong and where
abbrev pub fault_text : Told → List ℕ
fault_text no_memory = codes "out of memory"
fault_text (wrong place cause) = cause_text cause ++ codes " at " ++ place
