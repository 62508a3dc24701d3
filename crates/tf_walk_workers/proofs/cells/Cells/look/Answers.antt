use Rattle.std.proofs.Common.{rules, ◌≡◌, ◌+◌, ◌++◌, ◌∷◌, [], ◌∙◌, ℕ, true, List, map, take, sym, ap, subst}
use Rattle.std.proofs.lemmas.List.{map_push, take_all}
use Rattle.tf_walk_action.specs.Outcome.{is_good}
use Rattle.tf_walk_workers.specs.Reading.{done_in, seen_in}
use Rattle.tf_walk_workers.specs.SeenResult.{AreShown}
use Rattle.tf_walk_workers.proofs.Showing.{shown-none, shown-more}
use Rattle.tf_walk_workers.proofs.cells.Cells.look.Goals as goal

pub loop-action-init : goal.loop-action-init
loop-action-init g c =
    let none : map seen_in c.in_ok-readings.readings.items ≡ [] = ap (map seen_in) c.in_ok-readings.ensures.items in (
      subst (AreShown g.N.WalkBrand.meanings g.N.WalkBrand.plan []) (sym none) (shown-none g.N.WalkBrand.meanings g.N.WalkBrand.plan),
      search rules,
      c.in_ok-readings.ensures.capacity,
    )

pub push_reserved-requires : goal.push_reserved-requires
push_reserved-requires g c =
    let sized = c.loop-action.invariant.1 in
    let room = c.loop-action.invariant.2 in
    let below = c.loop-action-test.true in
    search rules

pub loop-action-preserved : goal.loop-action-preserved
loop-action-preserved g c =
    let nodes = c.args.before.now in
    let i = c.loop-action.action-index in
    let items = c.loop-action.readings.items in
    let reading = c.in-Some.reading in
    let good : is_good (done_in reading) ≡ true = sym c.is_good-bad.ensures.value ∙ c.if-bad.false in
    let more = shown-more g.N.WalkBrand.meanings g.N.WalkBrand.plan nodes i (map seen_in items) reading.action (done_in reading) c.loop-action-test.true c.in-Some.ensures good (c.is_good-bad.ensures.ideal c.if-bad.false) c.loop-action.invariant.0 in
    let pushed : map seen_in c.push_reserved.new.self.items ≡ map seen_in items ++ seen_in reading ∷ [] = ap (map seen_in) c.push_reserved.ensures.items ∙ map_push seen_in items reading in (
      subst (AreShown g.N.WalkBrand.meanings g.N.WalkBrand.plan (take (i + 1) nodes)) (sym pushed) more,
      search rules,
      search rules,
    )

pub returns-clause-shows : goal.returns-clause-shows
returns-clause-shows g c =
    subst (λ (nodes : List ℕ). AreShown g.N.WalkBrand.meanings g.N.WalkBrand.plan nodes (map seen_in c.loop-action.readings.items))
    (take_all c.loop-action.action-index c.args.before.now c.loop-action-test.false) c.loop-action.invariant.0
