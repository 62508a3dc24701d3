-- The content of a fault, without pointers.
use Rattle.std.specs.Prelude.{ℕ, List, string_bytes}
use Rattle.tf_expr_json.specs.declared.fault.ExprCause.{ExprCause}
use Rattle.tf_expr_json.specs.declared.fault.ExprFault.{ExprFault}
use Rattle.tf_expr_json.specs.declared.fault.ExprFault.TheVariants as faults

-- memory ran out, or something is wrong at a place
pub data Told : Type 0 where
  no_memory : Told
  wrong : List ℕ → ExprCause → Told

abbrev pub told : ExprFault → Told
told faults.OutOfMemory = no_memory
told (faults.Refused place cause) = wrong (string_bytes place) cause
