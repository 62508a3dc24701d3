use Rattle.std.proofs.Common.{◌≡◌, ℕ, sym, ap, subst, ◌∙◌, arith}
use Rattle.tf_graph.specs.Digraph.{Digraph}
use Rattle.tf_claim.specs.declared.seat.View.{View}
use Rattle.tf_claim.specs.Views.{ended, Owes}
use Rattle.tf_claim.specs.Claims.{Shared}
use Rattle.tf_claim.proofs.Seating.{seated, steps_small}
use Rattle.tf_claim.proofs.Words as words
use Rattle.tf_claim.proofs.claims.Claims.finish_as.Goals as goal

pub overflow_mul-action : goal.overflow_mul-action
overflow_mul-action g c =
    let nodes : c.self.inside.graph.nodes ≡ c.args.self.now.graph.nodes = ap (λ (z : Shared). z.graph.nodes) c.self.view_is in
    let few = c.self.invariant.3.nodes in
    let is = c.action.ensures in
    let inside = c.requires.owed.0 in omega arith

pub store-requires : goal.store-requires
store-requires g c =
    let at = seated _ _ _ _ _ c.self.view_is c.seat.view_is c.self.invariant.0 c.requires.seat in
    let is = c.action.ensures in
    let inside = c.requires.owed.0 in
    let P : Digraph × ℕ × View → Type 0 = λ z. Owes z.0 z.1 z.2 in (
      at.table,
      omega (arith, at.nodes, at.key_nodes, c.self.invariant.1),
      words.ends_as _ _ _ c.seat.invariant.2 _ _ _ _ (at.key ∙ sym c.requires.about.0) (is ∙ sym c.requires.about.1) (subst P (λ i. (sym at.key i, sym is i, sym at.view i)) c.requires.owed),
    )

pub overflow_add-seat : goal.overflow_add-seat
overflow_add-seat g c =
    let fits = steps_small _ c.args.self.now g.B.About.graph (ended g.B.About.number c.seat.inside.place.me.0) c.self.view_is c.requires.about.0 c.self.invariant.3 (c.store.ensures.2.0.2) in
    let steps = c.seat.invariant.1 in omega arith
