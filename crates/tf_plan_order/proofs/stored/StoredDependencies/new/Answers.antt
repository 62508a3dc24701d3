use Rattle.std.proofs.Common.{◌≡◌, ◌∙◌}
use Rattle.tf_graph.specs.Digraph.{Digraph}
use Rattle.tf_plan_order.proofs.Turned.{needed-reached, turned-within}
use Rattle.tf_plan_order.specs.Stored.{turned}
use Rattle.tf_plan_order.proofs.stored.StoredDependencies.new.Goals as goal

pub of-requires-clause-within : goal.of-requires-clause-within
of-requires-clause-within c =
    rw c.in_ok-edges.ensures (turned-within c.args.resources c.args.dependencies.now c.requires.within)

pub returns : goal.returns
returns c =
    let g : Digraph = c.in_ok-graph.graph in
    let edges : g.edges ≡ turned c.args.dependencies.now = c.in_ok-graph.ensures.1 ∙ c.in_ok-edges.ensures in
    record {
      nodes = c.in_ok-graph.ensures.0;
      edges = edges;
      closure = c.in_ok-table.ensures;
      needed = needed-reached g c.args.dependencies.now edges c.in_ok-table.table c.in_ok-table.ensures;
    }
