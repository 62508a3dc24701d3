-- The names that a plan evaluates.
use Rattle.std.specs.Prelude.{◌⊎◌, ℕ, List, Contains}
use Rattle.tf_config_data.specs.Names.{NameView, places}
use Rattle.tf_expand_keys.specs.Needed.{IsNeeded, IsNeededBy}
use Rattle.tf_config_names.specs.declared.dependence.Dependence.{Dependence}
use Rattle.tf_expr_syntax.specs.ExprNames.{named_below}
use Rattle.tf_expr_syntax.specs.ExprTree as expr

-- an output names the name at a place
abbrev pub IsNamed : List NameView → expr.Entries → ℕ → Type 0
IsNamed names outputs n = Contains (places names (named_below outputs)) n

-- A name is wanted if a resource needs it, or an output names it, or a name that an output names needs it.
abbrev pub IsWanted : List NameView → Dependence → expr.Entries → ℕ → Type 0
IsWanted names d outputs n = IsNeeded names d n ⊎ IsNamed names outputs n ⊎ IsNeededBy (IsNamed names outputs) d n
