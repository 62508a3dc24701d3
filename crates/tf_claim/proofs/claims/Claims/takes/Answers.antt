use Rattle.std.proofs.Common.{◌<◌, sym, subst, ◌∙◌, arith, eq-eqb}
use Rattle.tf_claim.specs.declared.seat.View.{View}
use Rattle.tf_claim.specs.Views.{times, took}
use Rattle.tf_claim.proofs.Seating.{seated, steps_small}
use Rattle.tf_claim.proofs.Words as words
use Rattle.tf_claim.proofs.claims.Claims.takes.Goals as goal

pub compare_exchange-found-requires : goal.compare_exchange-found-requires
compare_exchange-found-requires g c =
    let at = seated _ _ _ _ _ c.self.view_is c.seat.view_is c.self.invariant.0 c.requires.seat in
    let P : View → Type 0 = λ v. 0 < times c.args.action v.let_through in (
      at.table,
      omega (arith, at.nodes, at.key_nodes, c.self.invariant.1),
      words.takes_as _ _ _ c.seat.invariant.2 _ _ _ _ (at.key ∙ sym c.requires.about.0) (sym c.requires.about.1) (omega (arith, at.nodes, at.key_nodes, c.self.invariant.1)) (subst P (sym at.view) c.requires.ready),
    )

pub overflow_add-seat : goal.overflow_add-seat
overflow_add-seat g c =
    let fits = steps_small _ c.args.self.now g.B.About.graph (took g.B.About.number c.seat.inside.place.me.0) c.self.view_is c.requires.about.0 c.self.invariant.3 (rw (eq-eqb c.compare_exchange-found.result 0 c.if-found-ne-FREE.false) at c.compare_exchange-found.ensures.2.0.2) in
    let steps = c.seat.invariant.1 in omega arith
