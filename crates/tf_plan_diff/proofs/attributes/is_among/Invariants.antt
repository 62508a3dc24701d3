-- no name so far is this one
use Rattle.std.proofs.Common.{◌≡◌, drop}
use Rattle.std.specs.List.{list_any}
use Rattle.std.specs.Str.{bytes_eq}
use Rattle.tf_plan_data.specs.Action.{names_of}
use Rattle.tf_plan_diff.proofs.attributes.is_among.Given as goal

abbrev pub invariant-loop-other : goal.invariant-loop-other
invariant-loop-other l = list_any (bytes_eq l.name) (names_of (drop l.other-index l.names)) ≡ list_any (bytes_eq l.name) (names_of l.names)
