-- the keys that are left are still to be put in
use Rattle.std.proofs.Common.{◌≡◌}
use Rattle.std.specs.Map.{keys_of}
use Rattle.tf_plan_outputs.specs.Changes.{names_with}
use Rattle.tf_value_data.specs.Tree.{texts_view}
use Rattle.tf_plan_outputs.proofs.names.add_keys.Given as goal

abbrev pub invariant-loop-key : goal.invariant-loop-key
invariant-loop-key g l = names_with (texts_view l.names.keys) (texts_view l.key-iterator) ≡ names_with (texts_view l.fn.names.keys) (texts_view (keys_of l.entries.entries))
