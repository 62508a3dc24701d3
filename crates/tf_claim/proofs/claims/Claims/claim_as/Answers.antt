use Rattle.std.proofs.Common.{◌<◌, ◌∙◌, arith, ap, sym, subst, inl, inr}
use Rattle.std.proofs.lemmas.Bool.{true≢false}
use Rattle.tf_claim.specs.declared.seat.View.{View}
use Rattle.tf_claim.specs.Views.{times, knew}
use Rattle.tf_claim.specs.Moments.{WasNotFree}
use Rattle.tf_claim.proofs.Counting.{times-cons_same}
use Rattle.tf_claim.proofs.claims.Claims.claim_as.Goals as goal
use Rattle.tf_claim.proofs.claims.Claims.claim_as.Goals.{then-is_held_back-via-then-is_held_back, then-is_held_back-via-else-is_held_back+then-not-takes}

pub takes-requires-clause-ready : goal.takes-requires-clause-ready
takes-requires-clause-ready g c =
    let P : View → Type 0 = λ v. 0 < times c.args.action v.let_through in
    let once = times-cons_same c.args.action c.args.seat.now.view.let_through in
    subst P (sym c.if-is_held_back.ensures.seen) (omega arith)

pub returns-then-is_held_back : goal.returns-then-is_held_back
returns-then-is_held_back g c =
    elim c.then-is_held_back.branch [
      | then-is_held_back-via-then-is_held_back w ↦
          let at = w.if-is_held_back.ensures in
          rw w.seat-is record {
            table = at.table;
            claimed = inl at.seen;
            own = λ owns. absurd (true≢false (at.own owns));
            moment = inl (at.seen, at.moment);
            kept = at.kept;
          }
      | then-is_held_back-via-else-is_held_back+then-not-takes w ↦
          let at = w.if-is_held_back.ensures in
          let then = w.if-not-takes.ensures in
          let view = then.taken ∙ ap (λ (v : View). knew c.args.action v) at.seen in
          rw w.seat-is record {
            table = then.table ∙ at.table;
            claimed = inr view;
            own = λ owns. view;
            moment = inr (view, at.moment, subst (λ (v : View). WasNotFree c.args.self.now.graph c.args.action v) at.seen then.moment);
            kept = then.kept;
          }
    ]
