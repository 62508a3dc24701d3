use Rattle.std.proofs.Common.{rules, ◌<◌, ℕ, length, map, slice_index_or, refl, ap, ◌∙◌, arith}
use Rattle.tf_plan_decision.proofs.Along.{looked_start, looked_more, place_within, rows_all}
use Rattle.tf_plan_decision.specs.Stage.{deciding}
use Rattle.tf_expand_keys.proofs.Keeping.{kept_all}
use Rattle.tf_expand_keys.specs.Views.{shapes_of}
use Rattle.tf_expand_keys.specs.declared.table.ModuleParts.{ModuleParts}
use Rattle.tf_config_names.specs.Table.{names_in}
use Rattle.tf_state_data.specs.State.{state_of}
use Rattle.tf_value_data.specs.Tree.{entries_view}
use Rattle.tf_plan_decision.proofs.whole.decide_in_topological_order.Goals as goal

pub loop-place-init : goal.loop-place-init
loop-place-init g c =
    let ms = map (λ b. (goal.Provider-dyn g (b.vtable, b.value)).meaning b.value) c.args.stage.now.providers.now in
    let count = ap (λ (m : ModuleParts). length (names_in m.names.now)) c.declared.view_is in
    looked_start ms (state_of c.args.stage.now.state.now).resources (entries_view c.args.declared.now.variables.now.entries) (names_in c.args.declared.now.names.now) (shapes_of c.args.stage.now.shapes.now)
    c.args.order.now c.args.wanted.now c.in_ok-kept.kept.items c.in_ok-rows.rows.items (c.in_ok-kept.ensures.length ∙ c.len.ensures ∙ count) c.in_ok-kept.ensures.none (c.in_ok-rows.ensures ∙ c.len-2.ensures ∙ count)

pub loop-place-preserved : goal.loop-place-preserved
loop-place-preserved g c =
    let ms = map (λ b. (goal.Provider-dyn g (b.vtable, b.value)).meaning b.value) c.args.stage.now.providers.now in
    let names = names_in c.args.declared.now.names.now in
    let i = c.loop-place.place-index in
    let p : ℕ = slice_index_or c.args.order.now i 0 in
    let below : i < length c.args.order.now = c.loop-place-test.true in
    let inside : p < length names = place_within c.args.order.now (length names) c.requires.within i below (length names) refl in
    looked_more ms (state_of c.args.stage.now.state.now).resources (entries_view c.args.declared.now.variables.now.entries) names (shapes_of c.args.stage.now.shapes.now)
    c.args.order.now c.args.wanted.now i p c.loop-place.kept.items _ c.loop-place.rows.items _ c.in_ok-looked.looked.resolved c.in_ok-looked.looked.decided c.is_marked-is_wanted.result c.as_slice.result.now
    c.requires.order c.requires.closed c.requires.needed below refl inside refl refl
    c.is_marked-is_wanted.ensures c.as_slice.ensures.value c.in_ok-looked.ensures.resolved c.in_ok-looked.ensures.decided c.loop-place.invariant

pub returns-clause-resolved_names : goal.returns-clause-resolved_names
returns-clause-resolved_names g c =
    let ms = map (λ b. (goal.Provider-dyn g (b.vtable, b.value)).meaning b.value) c.args.stage.now.providers.now in
    kept_all (deciding ms (state_of c.args.stage.now.state.now).resources (shapes_of c.args.stage.now.shapes.now)) (entries_view c.args.declared.now.variables.now.entries) (names_in c.args.declared.now.names.now)
    c.args.order.now c.args.wanted.now c.loop-place.place-index c.loop-place.kept.items (omega (arith, c.loop-place-test.false)) c.loop-place.invariant.resolved

pub returns-clause-rows : goal.returns-clause-rows
returns-clause-rows g c =
    let ms = map (λ b. (goal.Provider-dyn g (b.vtable, b.value)).meaning b.value) c.args.stage.now.providers.now in
    rows_all ms (state_of c.args.stage.now.state.now).resources (entries_view c.args.declared.now.variables.now.entries) (names_in c.args.declared.now.names.now) (shapes_of c.args.stage.now.shapes.now)
    c.args.order.now c.loop-place.place-index c.loop-place.rows.items (omega (arith, c.loop-place-test.false)) c.loop-place.invariant.each

pub look_at-requires : goal.look_at-requires
look_at-requires g c =
    let count = length (names_in c.args.declared.now.names.now) in
    record { place = place_within c.args.order.now count c.requires.within c.loop-place.place-index c.loop-place-test.true count refl }

pub index_mut-requires : goal.index_mut-requires
index_mut-requires g c =
    let count = length (names_in c.args.declared.now.names.now) in
    let inside : slice_index_or c.args.order.now c.loop-place.place-index 0 < length c.loop-place.kept.items =
    place_within c.args.order.now count c.requires.within c.loop-place.place-index c.loop-place-test.true (length c.loop-place.kept.items) c.loop-place.invariant.resolved.long in
    search rules

pub index_mut-requires-in-loop-place : goal.index_mut-requires-in-loop-place
index_mut-requires-in-loop-place g c =
    let count = length (names_in c.args.declared.now.names.now) in
    let inside : slice_index_or c.args.order.now c.loop-place.place-index 0 < length c.loop-place.rows.items =
    place_within c.args.order.now count c.requires.within c.loop-place.place-index c.loop-place-test.true (length c.loop-place.rows.items) c.loop-place.invariant.long in
    search rules
