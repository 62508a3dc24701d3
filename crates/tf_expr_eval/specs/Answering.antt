-- The results of calls that evaluate several parts.
use Rattle.std.specs.Prelude.{◌≡◌, ℕ, List, Result, Ok, Err}
use Rattle.tf_value_data.specs.Tree.{Tree, Items}
use Rattle.tf_expr_operators.specs.Answer.{items_behind}
use Rattle.tf_expr_operators.specs.Joiner.{Joins}
use Rattle.tf_expr_syntax.specs.declared.fault.EvalFault.{EvalFault}
use Rattle.tf_expr_syntax.specs.declared.fault.EvalFault.TheVariants.{OutOfMemory}
use Rattle.tf_expr_operators.specs.declared.joining.Joiner.{Joiner}
use Rattle.tf_expr_eval.specs.Meaning.{laid}

-- the first fault of the parts, or out of memory
abbrev pub Fails : {Y : Type 0} → Result Y EvalFault → EvalFault → Type 0
Fails valued OutOfMemory = Unit {0}
Fails valued e = valued ≡ Err e

-- the values of the parts, as plain data, or the first fault, or out of memory
abbrev pub GivesAs : {X Y : Type 0} → (X → Y) → Result Y EvalFault → Result X EvalFault → Type 0
GivesAs view valued (Ok x) = valued ≡ Ok (view x)
GivesAs view valued (Err e) = Fails valued e

-- the values are joined to what was joined before, each after its text; or the result is the first fault of the
-- parts, or out of memory
abbrev pub GivesJoined : {X : Type 0} → Result (List (List ℕ × Tree)) EvalFault → Joiner → Joiner → Result X EvalFault → Type 0
GivesJoined valued before after (Ok x) =
    (pieces : List (List ℕ × Tree)) × (valued ≡ Ok pieces) × ((ts : Items) → Joins before ts → Joins after (items_behind ts (laid pieces)))
GivesJoined valued before after (Err e) = Fails valued e
