use Rattle.std.proofs.Common.{◌≡◌, sym, ap, subst, ◌∙◌, arith, refl}
use Rattle.tf_graph.specs.Digraph.{Digraph, target}
use Rattle.tf_claim.specs.declared.seat.View.{View}
use Rattle.tf_claim.specs.Views.{went, MayLetGo}
use Rattle.tf_claim.proofs.Seating.{seated, steps_small}
use Rattle.tf_claim.proofs.Words as words
use Rattle.tf_claim.proofs.claims.Claims.release.Goals as goal

pub fetch_sub-found-requires : goal.fetch_sub-found-requires
fetch_sub-found-requires g c =
    let at = seated _ _ _ _ _ c.self.view_is c.seat.view_is c.self.invariant.0 c.requires.seat in
    let is : c.args.action ≡ target c.self.inside.table.shared.key g.B.About.number =
    sym c.requires.about.1 ∙ ap (λ (z : Digraph). target z g.B.About.number) (sym at.key) in
    let P : Digraph × View → Type 0 = λ z. MayLetGo z.0 g.B.About.number z.1 in (
      at.table,
      omega (arith, at.nodes, at.key_nodes, c.self.invariant.1),
      words.releases_as _ _ _ c.seat.invariant.2 _ _ g.B.About.number g.B.About.number (at.key ∙ sym c.requires.about.0) refl _ is (omega (arith, at.nodes, at.key_nodes, c.self.invariant.1)) (subst P (λ i. (sym at.key i, sym at.view i)) c.requires.may),
    )

pub overflow_add-seat : goal.overflow_add-seat
overflow_add-seat g c =
    let fits = steps_small _ c.args.self.now g.B.About.graph (went g.B.About.number c.seat.inside.place.me.0) c.self.view_is c.requires.about.0 c.self.invariant.3 (c.fetch_sub-found.ensures.2.0.2) in
    let steps = c.seat.invariant.1 in omega arith
