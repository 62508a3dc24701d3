use Rattle.std.proofs.Common.{◌≡◌, ◌<◌, ℕ, false, length, slice_index_or}
use Rattle.tf_config_names.specs.Needs.{is_referred_to}
use Rattle.tf_config_names.proofs.dependence.Dependence.referred_to.Given as goal

abbrev pub invariant-loop-name : goal.invariant-loop-name
invariant-loop-name l = record { long : length l.referred.items ≡ l.name; marked : (k : ℕ) → k < l.name → slice_index_or l.referred.items k false ≡ is_referred_to l.self k }
