use Rattle.std.proofs.Common.{◌≡◌, ◌<◌, ℕ, false, length, slice_index_or}
use Rattle.tf_config_names.specs.Needs.{needs_in}
use Rattle.tf_config_names.proofs.dependence.Dependence.needed_by.Given as goal

abbrev pub invariant-loop-other : goal.invariant-loop-other
invariant-loop-other l = record { long : length l.needed.items ≡ l.other; needed : (k : ℕ) → k < l.other → slice_index_or l.needed.items k false ≡ needs_in l.self l.name k }
