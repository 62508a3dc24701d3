use Rattle.std.proofs.Common.{◌≡◌, ◌+◌, ◌*◌, sym, ap, ◌∙◌, arith, length, eq-eqb, eqb-true}
use Rattle.tf_graph.specs.Digraph.{Digraph}
use Rattle.tf_claim.specs.Views.{Seated, steps_of}
use Rattle.tf_claim.specs.Claims.{Shared, Stands}
use Rattle.tf_claim.proofs.Keeping as keeping
use Rattle.tf_claim.proofs.Words as words
use Rattle.tf_claim.proofs.claims.Claims.close.Goals as goal

pub returns-clause-whole : goal.returns-clause-whole
returns-clause-whole c =
    let graph : c.self.inside.table.shared.key ≡ c.args.self.graph = c.self.invariant.0 ∙ ap (λ (z : Shared). z.graph) c.self.view_is in
    let view : c.seat.inside.place.me.0 ≡ c.args.seat.view = ap (λ (z : Seated). z.view) c.seat.view_is in
    let last = c.close_with.ensures.values.2 in
    let stands : Stands c.args.self.graph c.args.seat.view = words.stands _ _ _ _ _ last.0 graph view last.1 in
    let mine : c.seat.inside.steps ≡ steps_of c.args.seat.view = c.seat.invariant.1 ∙ ap steps_of view in
    let now : c.self.inside.graph ≡ c.args.self.graph = ap (λ (z : Shared). z.graph) c.self.view_is in
    let edges : length c.self.inside.graph.edges ≡ length c.args.self.graph.edges = ap (λ (z : Digraph). length z.edges) now in
    let nodes : c.self.inside.graph.nodes ≡ c.args.self.graph.nodes = ap (λ (z : Digraph). z.nodes) now in
    let all : c.edge_count.result + 2 * c.nodes.result ≡ length c.args.self.graph.edges + 2 * c.args.self.graph.nodes =
    (let e = c.edge_count.ensures in let n = c.nodes.ensures.count in omega arith) in (
      (λ yes. keeping.whole c.args.self.graph c.args.seat.view stands (sym mine ∙ eqb-true _ _ yes ∙ all)),
      λ whole. eq-eqb _ _ (mine ∙ keeping.whole-steps c.args.self.graph c.args.seat.view stands whole ∙ sym all),
    )
