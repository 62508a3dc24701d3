-- the rest is still to be put
use Rattle.std.proofs.Common.{◌≡◌}
use Rattle.serde_json.specs.View.{members_view}
use Rattle.tf_cli_variables.specs.Merge.{put_each}
use Rattle.tf_cli_variables.proofs.merging.put_each.Given as goal

abbrev pub invariant-loop-name : goal.invariant-loop-name
invariant-loop-name l = put_each (members_view l.name-iterator) (members_view l.values.entries) ≡ put_each (members_view l.fn.given.entries) (members_view l.fn.values.entries)
