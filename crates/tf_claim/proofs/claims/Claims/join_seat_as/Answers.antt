use Rattle.std.proofs.Common.{◌≡◌, ◌<◌, sym, ap, subst, ◌∙◌, arith, length}
use Rattle.tf_claim.specs.declared.seat.View.{View}
use Rattle.tf_claim.specs.Views.{Seated, both}
use Rattle.tf_claim.specs.Claims.{Shared, Stands}
use Rattle.tf_claim.specs.Plays.{Sat}
use Rattle.tf_claim.proofs.Keeping as keeping
use Rattle.tf_claim.proofs.Parts.{some_joined}
use Rattle.tf_claim.proofs.Words as words
use Rattle.tf_claim.proofs.claims.Claims.join_seat_as.Goals as goal

pub join_seat-requires : goal.join_seat-requires
join_seat-requires g c =
    let words_are = c.self.invariant.1 in (
      ap (λ (z : Seated). z.table) c.seat.view_is ∙ c.requires.seat ∙ sym (ap (λ (z : Shared). z.table) c.self.view_is),
      ap (λ (z : Seated). z.table) c.other.view_is ∙ c.requires.other ∙ sym (ap (λ (z : Shared). z.table) c.self.view_is),
      c.other.invariant.0,
      omega arith,
      words.joins _ _ _ _ _ c.seat.invariant.2,
    )

pub load-requires : goal.load-requires
load-requires g c =
    let words_are = c.self.invariant.1 in
    let now : c.self.inside.table.shared.key ≡ g.B.About.graph = c.self.invariant.0 ∙ ap (λ (z : Shared). z.graph) c.self.view_is ∙ sym c.requires.about in (
      c.join_seat.ensures.0 ∙ ap (λ (z : Seated). z.table) c.seat.view_is ∙ c.requires.seat ∙ sym (ap (λ (z : Shared). z.table) c.self.view_is),
      omega arith,
      words.rests_as _ _ _ (subst (λ (v : View). 0 < length v.part) (sym (ap (λ (m : Sat). m.0) c.join_seat.ensures.2)) (some_joined c.seat.inside.place.me.0.part c.other.inside.place.me.0.part c.seat.invariant.2)) _ _ _ now,
    )

pub overflow_add-seat : goal.overflow_add-seat
overflow_add-seat g c =
    let now : c.self.inside.graph ≡ g.B.About.graph = ap (λ (z : Shared). z.graph) c.self.view_is ∙ sym c.requires.about in
    let v = c.seat.inside.place.me.0 in
    let w = c.other.inside.place.me.0 in
    let is : c.join_seat.new.seat.me.0 ≡ both v w = ap (λ m. m.0) c.join_seat.ensures.2 in
    let stands : Stands g.B.About.graph (both v w) = subst (λ (u : View). Stands g.B.About.graph u) is c.load.ensures.2.2 in
    let fits = words.steps_fit g.B.About.graph c.self.inside.graph (both v w) now c.self.invariant.3 stands in
    let sum = keeping.steps-both v w in
    let mine = c.seat.invariant.1 in
    let theirs = c.other.invariant.1 in omega arith
