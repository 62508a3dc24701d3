use Rattle.std.proofs.Common.{◌<◌, ℕ, length, not, is_some, slice_index_or, refl, ap, subst, ◌∙◌}
use Rattle.tf_expand_keys.specs.Module.{IsModule}
use Rattle.tf_expand_keys.specs.Views.{shapes_of, resolved_names_of}
use Rattle.tf_graph.proofs.Solving.{all_by_at}
use Rattle.tf_config_names.specs.Table.{names_in}
use Rattle.tf_value_data.specs.Tree.{entries_view}
use Rattle.tf_walk_names.proofs.Alone.{added_start, added_more, added_all, element}
use Rattle.tf_walk_names.proofs.Shared.{same_answered}
use Rattle.tf_walk_names.proofs.resolved.RequestObjects.add_resources.Goals as goal

pub loop-place-init : goal.loop-place-init
loop-place-init g c =
    added_start (entries_view c.args.self.now.declared.now.variables.now.entries) (names_in c.args.self.now.declared.now.names.now) (shapes_of c.args.self.now.shapes.now) (g.R.Results.objects c.args.self.now.results.now)
    c.args.resources.now c.args.kept.now.items c.requires.room c.requires.answered

pub add_resolved-requires-clause-place : goal.add_resolved-requires-clause-place
add_resolved-requires-clause-place g c =
    let p : ℕ = slice_index_or c.args.resources.now c.loop-place.place-index 0 in
    all_by_at (λ n. n < length (names_in c.args.self.now.declared.now.names.now)) c.args.resources.now p c.requires.within (element c.args.resources.now c.loop-place.place-index p c.loop-place-test.true refl)

pub add_resolved-requires-clause-room : goal.add_resolved-requires-clause-room
add_resolved-requires-clause-room g c =
    let p : ℕ = slice_index_or c.args.resources.now c.loop-place.place-index 0 in
    all_by_at (λ n. n < length c.loop-place.kept.items) c.args.resources.now p c.loop-place.invariant.room (element c.args.resources.now c.loop-place.place-index p c.loop-place-test.true refl)

pub loop-place-preserved : goal.loop-place-preserved
loop-place-preserved g c =
    let fits = subst IsModule c.declared.view_is c.declared.invariant in
    let p : ℕ = slice_index_or c.args.resources.now c.loop-place.place-index 0 in
    added_more (entries_view c.args.self.now.declared.now.variables.now.entries) (names_in c.args.self.now.declared.now.names.now) (shapes_of c.args.self.now.shapes.now) (g.R.Results.objects c.args.self.now.results.now)
    c.args.resources.now c.loop-place.place-index p _ c.loop-place.kept.items _ (fits.dependence.ranked fits.acyclic) c.requires.within c.requires.resources c.loop-place-test.true refl
    (ap not (c.stands-is_missing.ensures ∙ ap (λ xs. is_some (resolved_names_of xs p)) c.as_slice.ensures.value)) c.in_ok-add_resolved.ensures.added c.loop-place.invariant

pub returns-in_err-add_resolved-clause-answered : goal.returns-in_err-add_resolved-clause-answered
returns-in_err-add_resolved-clause-answered g c =
    same_answered (entries_view c.args.self.now.declared.now.variables.now.entries) (names_in c.args.self.now.declared.now.names.now) (shapes_of c.args.self.now.shapes.now) (g.R.Results.objects c.args.self.now.results.now)
    (resolved_names_of c.loop-place.kept.items) (resolved_names_of c.add_resolved.new.kept.items) (λ n. ap (λ xs. resolved_names_of xs n) c.in_err-add_resolved.ensures.no_memory) c.loop-place.invariant.answered

pub returns-clause-answered : goal.returns-clause-answered
returns-clause-answered g c = c.loop-place.invariant.answered

pub returns-clause-there : goal.returns-clause-there
returns-clause-there g c =
    added_all (entries_view c.args.self.now.declared.now.variables.now.entries) (names_in c.args.self.now.declared.now.names.now) (shapes_of c.args.self.now.shapes.now) (g.R.Results.objects c.args.self.now.results.now)
    c.args.resources.now c.loop-place.place-index c.loop-place.kept.items c.loop-place-test.false c.loop-place.invariant
