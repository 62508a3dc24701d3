-- the sources so far give values, which are merged
use Rattle.std.proofs.Common.{take}
use Rattle.serde_json.specs.View.{view, members_view}
use Rattle.tf_cli_variables.specs.Merge.{AreValues}
use Rattle.tf_cli_variables.proofs.merging.merged_values.Given as goal

abbrev pub invariant-loop-position : goal.invariant-loop-position
invariant-loop-position l = AreValues (view l.config) (take l.position l.sources) (members_view l.values.entries)
