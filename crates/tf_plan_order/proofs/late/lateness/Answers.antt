use Rattle.std.proofs.Common.{◌≡◌, ◌∙◌, ◌++◌, ◌∷◌, [], arith}
use Rattle.std.proofs.lemmas.List.{nil_from_length}
use Rattle.tf_plan_order.proofs.Spreading.{spread-next, spread-done}
use Rattle.tf_plan_order.proofs.SpreadState.{IsSpread}
use Rattle.tf_plan_order.proofs.late.lateness.Goals as goal

pub loop-resource-preserved : goal.loop-resource-preserved
loop-resource-preserved c =
    let a = c.args in
    let l = c.loop-resource in
    let s : IsSpread a.needs.now a.needed.now a.marked.now l.search.late.items (c.pop.new.self.items ++ c.in-Some.resource ∷ []) = rw (← c.in-Some.ensures.items) l.invariant.spread in
    let first = c.in_ok-visit.ensures in
    let second = c.in_ok-visit-2.ensures in
    record {
      long = second.further.same_length ∙ first.further.same_length ∙ l.invariant.long;
      spread = spread-next a.needs.now a.needed.now a.marked.now l.search.late.items c.visit.new.search.late.items c.visit-in-Some.new.search.late.items
          c.in-Some.resource c.pop.new.self.items c.visit.new.search.pending.items c.visit-in-Some.new.search.pending.items s
          first.further first.found second.further second.found;
    }

pub returns-clause-late : goal.returns-clause-late
returns-clause-late c =
    let a = c.args in
    let l = c.loop-resource in
    let none : l.search.pending.items ≡ [] = nil_from_length l.search.pending.items (omega (arith, c.in_default.ensures.cases.0)) in
    spread-done a.needs.now a.needed.now a.marked.now l.search.late.items (rw (← none) l.invariant.spread)
