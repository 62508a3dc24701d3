use Rattle.std.proofs.Common.{rules, ◌≡◌, ◌<◌, ◌+◌, ◌∙◌, ℕ, List, Option, IfSome, length, sym, ap, subst, arith}
use Rattle.std.proofs.lemmas.List.{length_push}
use Rattle.std.specs.Prelude.{slice_set}
use Rattle.tf_walk_action.specs.declared.action_result.ActionResult.{ActionResult}
use Rattle.tf_walk_workers.specs.Ideal.{IsEndOf}
use Rattle.tf_walk_workers.proofs.Gathering.{IsGathering, gathers-none, gathers, gathered}
use Rattle.tf_walk_workers.proofs.TakingOut.{IsTakenOut}
use Rattle.tf_walk_workers.proofs.Taking.{none-taken, one-less, last-cell, one-placed}
use Rattle.tf_walk_workers.proofs.cells.Cells.take_out.Goals as goal

pub loop-cell-init : goal.loop-cell-init
loop-cell-init g c =
    let all : length c.self.inside.cells.items ≡ c.args.self = search rules in (
      none-taken g.N.WalkBrand.meanings g.N.WalkBrand.plan c.args.self c.self.inside.cells.items c.args.results.now c.self.invariant all c.requires.results,
      subst (λ (k : ℕ). IsGathering k c.args.self c.args.results.now c.args.part.now c.args.part.now) (sym all) (gathers-none c.args.self c.args.results.now c.args.part.now c.requires.results),
    )

pub loop-cell-preserved : goal.loop-cell-preserved
loop-cell-preserved g c =
    let ms = g.N.WalkBrand.meanings in
    let plan = g.N.WalkBrand.plan in
    let count = c.args.self in
    let rest = c.pop.new.self.items in
    let ended = c.into_inner-ended.result.ended in
    let shorter = one-less ms plan count c.loop-cell.cells.items rest c.in-Some.cell c.loop-cell.results c.in-Some.ensures.items c.loop-cell.invariant.0 in
    let last = last-cell ms plan count c.loop-cell.cells.items rest c.in-Some.cell c.loop-cell.results c.in-Some.ensures.items c.loop-cell.invariant.0 in
    let all : length c.loop-cell.cells.items ≡ length rest + 1 = ap length c.in-Some.ensures.items ∙ length_push rest c.in-Some.cell in
    let below : length rest < count = (let w = c.loop-cell.invariant.0.within in omega (arith, all)) in
    let inside : length rest < length c.loop-cell.results = (let s = c.loop-cell.invariant.0.sized in omega (arith, below)) in
    let at : c.len.result ≡ length rest = search rules in
    let placed : c.place.new.results ≡ slice_set c.loop-cell.results (length rest) ended = c.place.ensures ∙ ap (λ (k : ℕ). slice_set c.loop-cell.results k ended) at in
    let is : IfSome ended (IsEndOf ms plan (length rest)) = subst (λ (k : ℕ). IfSome ended (IsEndOf ms plan k)) last c.into_inner-ended.ensures.fits in
    let same : c.merge.new.part.table ≡ c.loop-cell.part.table = c.merge.ensures.same ∙ (c.requires.tally ∙ sym (c.loop-cell.invariant.1.own ∙ c.requires.part)) in (
      subst (λ (rs : List (Option ActionResult)). IsTakenOut ms plan count rest rs) (sym placed) (one-placed ms plan count rest c.loop-cell.results ended below is shorter),
      subst (λ (rs : List (Option ActionResult)). IsGathering (length rest) count rs c.args.part.now c.merge.new.part) (sym placed)
          (gathers g.N.WalkBrand.table count c.args.part.now c.loop-cell.part c.merge.new.part (length rest) c.loop-cell.results c.into_inner-ended.result.part ended c.into_inner-ended.ensures.reports same c.merge.ensures.merged inside
          (c.loop-cell.invariant.0.free (length rest) (omega (arith, all))) (subst (λ (k : ℕ). IsGathering k count c.loop-cell.results c.args.part.now c.loop-cell.part) all c.loop-cell.invariant.1)),
    )

pub merge-requires-clause-part : goal.merge-requires-clause-part
merge-requires-clause-part g c = c.loop-cell.invariant.1.own ∙ (c.requires.part ∙ sym c.requires.tally)

pub merge-requires-clause-other : goal.merge-requires-clause-other
merge-requires-clause-other g c = c.into_inner-ended.ensures.reports.own ∙ sym c.requires.tally

pub returns : goal.returns
returns g c =
    let none : length c.loop-cell.cells.items ≡ 0 = search rules in
    record {
      length = c.loop-cell.invariant.0.sized;
      own = c.loop-cell.invariant.0.own;
      gathered = gathered c.args.self c.loop-cell.results c.args.part.now c.loop-cell.part (subst (λ (k : ℕ). IsGathering k c.args.self c.loop-cell.results c.args.part.now c.loop-cell.part) none c.loop-cell.invariant.1);
      fits = c.loop-cell.invariant.0.fits;
    }
