use Rattle.std.proofs.Common.{◌≡◌, ◌<◌, ℕ, length}
use Rattle.tf_config_data.specs.Names.{meant_at}
use Rattle.tf_config_names.specs.Table.{names_in}
use Rattle.tf_expand_keys.specs.Needed.{is_resource}
use Rattle.tf_graph.specs.NodeSet.{has}
use Rattle.tf_expand_keys.proofs.needed.resources.Given as goal

abbrev pub invariant-loop-place : goal.invariant-loop-place
invariant-loop-place l = record { long : length l.found.items ≡ l.place; each : (n : ℕ) → n < l.place → has l.found.items n ≡ is_resource (meant_at (names_in l.names) n) }
