-- One attribute after another.
use Rattle.std.specs.Prelude.{List, ℕ, Result, Ok, Err}
use Rattle.tf_value_data.specs.Tree.{Tree, Entries, put}
use Rattle.tf_plan_object.specs.declared.argument.ArgumentFault.{ArgumentFault}

-- the entries with an attribute's value, if it has one
abbrev pub put_value : List ℕ → Result Tree ArgumentFault → Entries → Entries
put_value name (Ok t) es = put name t es
put_value name (Err fault) es = es
