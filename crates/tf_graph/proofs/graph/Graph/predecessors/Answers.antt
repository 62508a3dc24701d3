use Rattle.std.proofs.Common.{ap, arith}
use Rattle.tf_graph.specs.Digraph.{Digraph, sources_into}
use Rattle.tf_graph.proofs.Rows.{read-within, sources_into-within}
use Rattle.tf_graph.proofs.graph.Graph.predecessors.Goals as goal

pub returns-clause-within : goal.returns-clause-within
returns-clause-within c =
    let g = c.self.inside.lists.value in
    rw (← c.self.view_is) (read-within g.before.items g.nodes c.args.node c.index.result.now c.as_slice.result.now (sources_into g.edges.items c.args.node) c.as_slice.ensures.value
    (omega (arith, ap (λ (d : Digraph). d.nodes) c.self.view_is)) (rw (← c.deref.ensures) c.index.ensures) (c.self.invariant.before_rows c.args.node) (sources_into-within g.nodes g.edges.items c.args.node c.self.invariant.within))
