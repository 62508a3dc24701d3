use Rattle.std.proofs.Common.{◌≡◌, length, slice_index_or, sym, ap, subst, ◌∙◌, arith}
use Rattle.tf_expand_keys.specs.Module.{IsModule}
use Rattle.tf_expand_keys.specs.Views.{shapes_of, resolved_names_of}
use Rattle.tf_expand_keys.specs.declared.table.ModuleParts.{ModuleParts}
use Rattle.tf_config_names.specs.Needs.{order_in}
use Rattle.tf_config_names.specs.Table.{names_in}
use Rattle.tf_value_data.specs.Tree.{entries_view}
use Rattle.tf_walk_names.proofs.Answering.{place_of_order}
use Rattle.tf_walk_names.proofs.Shared.{adding_start, adding_more, adding_all, same_answered}
use Rattle.tf_walk_names.proofs.resolved.RequestObjects.add_wanted.Goals as goal

pub loop-place-init : goal.loop-place-init
loop-place-init g c =
    adding_start (entries_view c.args.self.now.declared.now.variables.now.entries) (names_in c.args.self.now.declared.now.names.now) (shapes_of c.args.self.now.shapes.now) (g.R.Results.objects c.args.self.now.results.now)
    (order_in c.args.self.now.declared.now.dependence.now) c.args.wanted.now c.args.kept.now.items c.requires.room c.requires.answered

pub add_resolved-requires-clause-place : goal.add_resolved-requires-clause-place
add_resolved-requires-clause-place g c =
    let fits = subst IsModule c.declared.view_is c.declared.invariant in
    let place = place_of_order (order_in c.args.self.now.declared.now.dependence.now) c.order-place-items.result.now c.loop-place.place-index (c.order-place-items.ensures ∙ ap (λ (m : ModuleParts). order_in m.dependence.now) c.declared.view_is) c.loop-place-test.true in
    fits.dependence.within _ place.2

pub add_resolved-requires-clause-room : goal.add_resolved-requires-clause-room
add_resolved-requires-clause-room g c =
    let fits = subst IsModule c.declared.view_is c.declared.invariant in
    let place = place_of_order (order_in c.args.self.now.declared.now.dependence.now) c.order-place-items.result.now c.loop-place.place-index (c.order-place-items.ensures ∙ ap (λ (m : ModuleParts). order_in m.dependence.now) c.declared.view_is) c.loop-place-test.true in
    let inside = fits.dependence.within _ place.2 in
    omega (arith, inside, c.loop-place.invariant.room)

pub loop-place-preserved : goal.loop-place-preserved
loop-place-preserved g c =
    let fits = subst IsModule c.declared.view_is c.declared.invariant in
    let order = order_in c.args.self.now.declared.now.dependence.now in
    let place = place_of_order order c.order-place-items.result.now c.loop-place.place-index (c.order-place-items.ensures ∙ ap (λ (m : ModuleParts). order_in m.dependence.now) c.declared.view_is) c.loop-place-test.true in
    adding_more (entries_view c.args.self.now.declared.now.variables.now.entries) (names_in c.args.self.now.declared.now.names.now) (shapes_of c.args.self.now.shapes.now) (g.R.Results.objects c.args.self.now.results.now)
    order c.args.wanted.now c.loop-place.place-index (slice_index_or c.order-place-items.result.now c.loop-place.place-index 0) c.is_missing-is_missing.result c.loop-place.kept.items _
    (fits.dependence.ranked fits.acyclic) fits.dependence.in_order c.requires.closed place.0 place.1 (fits.dependence.within _ place.2)
    (rw c.as_slice.ensures.value at c.is_missing-is_missing.ensures) c.in_ok-add_resolved.ensures.added c.loop-place.invariant

pub returns-in_err-add_resolved-clause-answered : goal.returns-in_err-add_resolved-clause-answered
returns-in_err-add_resolved-clause-answered g c =
    same_answered (entries_view c.args.self.now.declared.now.variables.now.entries) (names_in c.args.self.now.declared.now.names.now) (shapes_of c.args.self.now.shapes.now) (g.R.Results.objects c.args.self.now.results.now)
    (resolved_names_of c.loop-place.kept.items) (resolved_names_of c.add_resolved.new.kept.items) (λ n. ap (λ xs. resolved_names_of xs n) c.in_err-add_resolved.ensures.no_memory) c.loop-place.invariant.answered

pub returns-clause-answered : goal.returns-clause-answered
returns-clause-answered g c = c.loop-place.invariant.answered

pub returns-clause-there : goal.returns-clause-there
returns-clause-there g c =
    let left : length (order_in c.args.self.now.declared.now.dependence.now) ≡ length c.order-place-items.result.now = ap (λ xs. length xs) (sym (c.order-place-items.ensures ∙ ap (λ (m : ModuleParts). order_in m.dependence.now) c.declared.view_is)) in
    adding_all (entries_view c.args.self.now.declared.now.variables.now.entries) (names_in c.args.self.now.declared.now.names.now) (shapes_of c.args.self.now.shapes.now) (g.R.Results.objects c.args.self.now.results.now)
    (order_in c.args.self.now.declared.now.dependence.now) c.args.wanted.now c.loop-place.place-index c.loop-place.kept.items (omega (arith, left, c.loop-place-test.false)) c.loop-place.invariant
