-- A plan whose parts fit together is founded.
use Rattle.std.proofs.Common.{◌≡◌, ℕ, length, map, subst, arith}
use Rattle.std.proofs.lemmas.List.{length-map}
use Rattle.tf_plan_data.specs.Action.{action_of}
use Rattle.tf_graph.specs.Digraph.{predecessors_of}
use Rattle.tf_graph.specs.Solutions.{StaysBelow}
use Rattle.tf_laws.specs.Founded.{FittingPlansAreFounded}

pub fitting_founded : FittingPlansAreFounded
fitting_founded plan fits order =
    let count : plan.order.nodes ≡ length (map action_of plan.actions.items) = omega (arith, length-map plan.actions.items action_of, plan.counted, plan.actions.ok.0) in
    record {
      names = fits.dependence.ranked fits.acyclic;
      order = order.ranked;
      within = subst (λ (k : ℕ). StaysBelow k (predecessors_of plan.order)) count order.below;
      declared = fits.declared;
    }
