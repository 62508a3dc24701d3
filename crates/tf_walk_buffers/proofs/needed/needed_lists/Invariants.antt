use Rattle.std.proofs.Common.{◌≡◌, ◌<◌, ℕ, true, Contains, filter, length}
use Rattle.std.specs.List.{range_with_len}
use Rattle.tf_graph.specs.Lists.{row}
use Rattle.tf_graph.specs.NodeSet.{has}
use Rattle.tf_config_names.specs.Needs.{needs_in}
use Rattle.tf_config_names.specs.Table.{names_in}
use Rattle.tf_walk_buffers.specs.Dependencies.{addresses_at}
use Rattle.tf_walk_buffers.proofs.needed.needed_lists.Given as goal

abbrev pub invariant-loop-place : goal.invariant-loop-place
invariant-loop-place l = record {
  count : length l.lists.items ≡ length (names_in l.names);
  within : (p m : ℕ) → Contains (row l.lists.items p) m → m < length (names_in l.names);
  listed : (p : ℕ) → has l.asked p ≡ true → addresses_at (names_in l.names) (row l.lists.items p) ≡ addresses_at (names_in l.names) (filter (needs_in l.dependence p) (range_with_len 0 l.place));
}
