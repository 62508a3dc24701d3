use Rattle.std.proofs.Common.{rules, ◌≡◌, length, refl, ap, ◌∙◌, arith}
use Rattle.std.proofs.lemmas.List.Elements.{Contains-get_or}
use Rattle.tf_config_names.specs.Table.{names_in}
use Rattle.tf_value_data.specs.Tree.{entries_view}
use Rattle.tf_expand_keys.specs.Views.{resolved_of}
use Rattle.tf_expand_keys.specs.declared.table.ModuleParts.{ModuleParts}
use Rattle.tf_expand_keys.proofs.Keeping.{kept_start, kept_more, kept_all, stood_is}
use Rattle.tf_expand_keys.proofs.table.resolved_in_order.Goals as goal

pub loop-place-init : goal.loop-place-init
loop-place-init g c = kept_start _ _ _ _ _ _ (c.in_ok-kept.ensures.length ∙ c.len.ensures ∙ ap (λ (m : ModuleParts). length (names_in m.names.now)) c.declared.view_is) c.in_ok-kept.ensures.none

pub loop-place-preserved : goal.loop-place-preserved
loop-place-preserved g c =
    let below = c.loop-place-test.true in
    let inside = c.requires.within _ (Contains-get_or c.args.order.now c.loop-place.place-index 0 below) in
    kept_more _ _ _ _ _ c.loop-place.place-index _ _ _ c.in_ok-resolved.resolved c.requires.local c.requires.order c.requires.closed below refl inside refl
    (stood_is (g.T.ResourceValues.stage c.args.stage.now) (entries_view c.args.declared.now.variables.now.entries) (names_in c.args.declared.now.names.now) c.args.wanted.now _
    c.is_marked-is_wanted.result c.as_slice.result.now _ (resolved_of c.in_ok-resolved.resolved) c.in_ok-resolved.ensures c.is_marked-is_wanted.ensures c.as_slice.ensures.value)
    c.loop-place.invariant

pub returns-clause-resolved_names : goal.returns-clause-resolved_names
returns-clause-resolved_names g c = kept_all _ _ _ _ _ _ _ (omega (arith, c.loop-place-test.false)) c.loop-place.invariant

pub resolve_at-requires : goal.resolve_at-requires
resolve_at-requires g c = record { place = c.requires.within _ (Contains-get_or c.args.order.now c.loop-place.place-index 0 c.loop-place-test.true) }

pub index_mut-requires : goal.index_mut-requires
index_mut-requires g c =
    let inside = c.requires.within _ (Contains-get_or c.args.order.now c.loop-place.place-index 0 c.loop-place-test.true) in
    let long : length c.loop-place.kept.items ≡ length (names_in c.args.declared.now.names.now) = c.loop-place.invariant.long in
    search rules
