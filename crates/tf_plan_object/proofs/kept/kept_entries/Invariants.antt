use Rattle.std.proofs.Common.{map, string_bytes}
use Rattle.tf_value_data.specs.Tree.{tree_of, entries_view}
use Rattle.tf_plan_object.specs.Kept.{kept_value}
use Rattle.tf_plan_object.proofs.Shown.{AreShownBefore}
use Rattle.tf_plan_object.proofs.kept.kept_entries.Given as goal

abbrev pub invariant-loop-key : goal.invariant-loop-key
invariant-loop-key l =
    AreShownBefore (λ e. kept_value l.schema (map string_bytes l.ignored) (tree_of l.prior) (string_bytes e.0) (tree_of e.1)) l.planned.entries l.key-iterator (entries_view l.kept.entries)
