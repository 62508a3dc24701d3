use Rattle.std.proofs.Common.{◌≡◌, ℕ, length}
use Rattle.tf_expand_keys.specs.Views.{resolved_names_of}
use Rattle.tf_walk_names.proofs.sharing.fill.Given as goal

abbrev pub invariant-loop : goal.invariant-loop
invariant-loop l = record { long : length l.kept.items ≡ l.counter; same : (n : ℕ) → resolved_names_of l.kept.items n ≡ resolved_names_of l.fn.kept.items n }
