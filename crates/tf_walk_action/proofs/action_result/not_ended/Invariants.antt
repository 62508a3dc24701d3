-- as many as there were turns, and room for the rest
use Rattle.std.proofs.Common.{◌≡◌, ◌≤◌, None, replicate}
use Rattle.std.specs.Prelude.{vec_capacity}
use Rattle.tf_walk_action.proofs.action_result.not_ended.Given as goal

abbrev pub invariant-loop : goal.invariant-loop
invariant-loop l = (l.results.items ≡ replicate l.counter None) × (l.count ≤ vec_capacity l.results)
