-- those of the edges so far
use Rattle.std.proofs.Common.{◌≡◌, not, filter, take}
use Rattle.tf_plan_text.specs.Beyond.{leads_beyond}
use Rattle.tf_plan_text.proofs.reducing.direct_edges.Given as goal

abbrev pub invariant-loop-edge : goal.invariant-loop-edge
invariant-loop-edge l = l.kept.items ≡ filter (λ e. not (leads_beyond l.beyond e)) (take l.edge-index l.edges)
