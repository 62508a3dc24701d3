use Rattle.std.proofs.Common.{◌≡◌, ◌++◌, ℕ, map, take}
use Rattle.tf_plan_order.proofs.order.add_listed.Given as goal

abbrev pub invariant-loop-first : goal.invariant-loop-first
invariant-loop-first l = l.found.items ≡ l.initial.found.items ++ map (λ (first : ℕ). (first, l.second)) (take l.first-index l.before)
