use Rattle.std.proofs.Common.{◌≡◌, ◌∙◌, ℕ, List, ap, subst}
use Rattle.tf_walk_workers.specs.SeenResult.{AreShown, seen_result_of}
use Rattle.tf_graph.specs.Digraph.{Digraph, predecessors_of}
use Rattle.tf_config_names.specs.Table.{names_in}
use Rattle.tf_walk_workers.proofs.seeing.good_before.Goals as goal

pub returns-in-Ok-Good : goal.returns-in-Ok-Good
returns-in-Ok-Good g c =
    let order = c.args.plan.now.order in
    let nodes : c.predecessors-nodes.result.now ≡ predecessors_of order c.args.action =
    c.predecessors-nodes.ensures.nodes ∙ ap (λ (x : Digraph). predecessors_of x c.args.action) c.graph.ensures.graph in
    let shows = rw c.in-Ok-Good.field-0-is at c.in-Ok-Good.ensures.shows in
    record {
      named = ap names_in (rw c.in-Ok-Good.field-0-is at c.in-Ok-Good.ensures.names);
      prior = rw c.in-Ok-Good.field-0-is at c.in-Ok-Good.ensures.prior;
      actions = (rw c.in-Ok-Good.field-0-is at c.in-Ok-Good.ensures.actions) ∙ c.as_slice-actions.ensures.value;
      shows = subst (λ (ks : List ℕ). AreShown g.N.WalkBrand.meanings g.N.WalkBrand.plan ks (seen_result_of c.in-Ok-Good.before)) nodes shows;
    }
