use Rattle.std.proofs.Common.{ℕ, ◌+◌, ◌<◌}
use Rattle.tf_expr_json.specs.Opening.{OpensAt}
use Rattle.tf_expr_json.proofs.demand.is_plain.Given as goal

-- nothing opens before the byte that is looked at
abbrev pub invariant-loop-after : goal.invariant-loop-after
invariant-loop-after l = (offset : ℕ) → offset + 1 < l.after → ¬ OpensAt l.bytes offset
