use Rattle.std.proofs.Common.{◌<◌, ◌+◌, ℕ, length, drop, slice_index_or, refl, arith}
use Rattle.std.proofs.lemmas.List.{get_or_default}
use Rattle.std.proofs.lemmas.List.Elements.{Contains-get_or}
use Rattle.tf_graph.proofs.Solving.{all_by_at}
use Rattle.tf_config_names.proofs.Tables.{drop_next, drop_all}
use Rattle.tf_expand_keys.proofs.Marking.{marks_start, marks_more, marks_all}
use Rattle.tf_expand_keys.proofs.marks.mark.Goals as goal

pub loop-place-init : goal.loop-place-init
loop-place-init c = marks_start c.args.marked.now c.args.places.now

pub loop-place-preserved : goal.loop-place-preserved
loop-place-preserved c =
    let places = c.args.places.now in
    let i = c.loop-place.place-index in
    let below : i < length places = c.loop-place-test.true in
    let inside = all_by_at (λ n. n < length c.args.marked.now) places _ c.requires.within (Contains-get_or places i 0 below) in
    marks_more _ places _ _ (drop i places) (drop (i + 1) places) _ inside (drop_next places i (slice_index_or places i 0) below (get_or_default places i 0 _ below)) refl
    c.loop-place.invariant

pub returns-clause-marked : goal.returns-clause-marked
returns-clause-marked c =
    marks_all _ _ _ _ (drop_all c.args.places.now c.loop-place.place-index (omega (arith, c.loop-place-test.false))) c.loop-place.invariant
