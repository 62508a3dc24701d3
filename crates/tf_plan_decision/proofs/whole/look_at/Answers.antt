use Rattle.std.proofs.Common.{◌≡◌, ℕ, List, Some, None, map, sym, ap, subst, ◌∙◌}
use Rattle.tf_config_data.specs.Names.{directly_before, meant_at}
use Rattle.tf_config_names.specs.Table.{names_in}
use Rattle.tf_expand_keys.specs.Resolved.{all_stand}
use Rattle.tf_expand_keys.specs.Views.{resolved_of, resolved_names_of, shapes_of}
use Rattle.tf_expand_keys.specs.Words.{seen_by}
use Rattle.tf_expand_keys.specs.declared.table.ModuleParts.{ModuleParts}
use Rattle.tf_plan_decision.proofs.Looking.{IsLooked, nothing_either, nothing_in_row, shape_found}
use Rattle.tf_plan_decision.proofs.whole.look_at.Given.{Over}
use Rattle.tf_plan_decision.proofs.whole.look_at.Goals as goal
use Rattle.tf_plan_decision.proofs.whole.look_at.Goals.{After-all_stand}
use Rattle.tf_state_data.specs.State.{state_of}
use Rattle.tf_value_data.specs.Tree.{entries_view}

-- whether all that the name needs stands
told : (g : Over) (c : After-all_stand g) → all_stand (seen_by (resolved_names_of c.args.kept.now) (directly_before (names_in c.declared.inside.parts.names.now) c.args.place)) ≡ c.all_stand.result
told g c =
    let before = c.before-2.ensures ∙ c.declared.invariant.dependence.before c.args.place in
    sym (c.all_stand.ensures ∙ ap (λ (ns : List ℕ). all_stand (seen_by (resolved_names_of c.args.kept.now) ns)) before)

pub returns-then-not-all_stand : goal.returns-then-not-all_stand
returns-then-not-all_stand g c =
    let ms = map (λ b. (goal.Provider-dyn g (b.vtable, b.value)).meaning b.value) c.args.stage.now.providers.now in
    let names = names_in c.args.declared.now.names.now in
    let refused =
    ap (λ (m : ModuleParts). all_stand (seen_by (resolved_names_of c.args.kept.now) (directly_before (names_in m.names.now) c.args.place))) (sym c.declared.view_is)
    ∙ told g (goal.at.returns-then-not-all_stand g c).After-all_stand ∙ c.if-not-all_stand.true in
    record {
      resolved = rw refused (nothing_either c.args.is_wanted (resolved_of c.nothing_looked_at.result.resolved) c.nothing_looked_at.ensures.resolved);
      decided =
          c.nothing_looked_at.ensures.decided
          ∙ nothing_in_row ms (state_of c.args.stage.now.state.now).resources (entries_view c.args.declared.now.variables.now.entries) names (shapes_of c.args.stage.now.shapes.now)
          (resolved_names_of c.args.kept.now) c.args.place (meant_at names c.args.place) refused;
    }

pub returns-in-Local : goal.returns-in-Local
returns-in-Local g c =
    let ms = map (λ b. (goal.Provider-dyn g (b.vtable, b.value)).meaning b.value) c.args.stage.now.providers.now in
    let all = told g (goal.at.returns-in-Local g c).After-all_stand ∙ c.if-not-all_stand.false in
    let meant = rw c.in-Local.is at c.at.ensures.meant in
    let is =
    subst (IsLooked ms (state_of c.args.stage.now.state.now).resources (shapes_of c.args.stage.now.shapes.now) (resolved_names_of c.args.kept.now) c.args.place c.args.is_wanted c.look_at_local.result) c.declared.view_is
    (record { resolved = rw (all, meant) c.look_at_local.ensures.resolved; decided = rw meant c.look_at_local.ensures.decided }) in
    record { resolved = is.resolved; decided = is.decided }

pub returns-in-Some : goal.returns-in-Some
returns-in-Some g c =
    let ms = map (λ b. (goal.Provider-dyn g (b.vtable, b.value)).meaning b.value) c.args.stage.now.providers.now in
    let all = told g (goal.at.returns-in-Some g c).After-all_stand ∙ c.if-not-all_stand.false in
    let meant = rw c.in-Resource.is at c.at.ensures.meant in
    let same = shape_found c.args.stage.now.shapes.now c.args.place c.get.result (Some c.in-Some.shape) c.get.ensures.lookup c.in-Some.is in
    let is =
    subst (IsLooked ms (state_of c.args.stage.now.state.now).resources (shapes_of c.args.stage.now.shapes.now) (resolved_names_of c.args.kept.now) c.args.place c.args.is_wanted c.decide_block.result) c.declared.view_is
    (record { resolved = rw (all, meant, same) c.decide_block.ensures.resolved; decided = rw (meant, all, same) c.decide_block.ensures.decided }) in
    record { resolved = is.resolved; decided = is.decided }

pub returns-in-None : goal.returns-in-None
returns-in-None g c =
    let ms = map (λ b. (goal.Provider-dyn g (b.vtable, b.value)).meaning b.value) c.args.stage.now.providers.now in
    let all = told g (goal.at.returns-in-None g c).After-all_stand ∙ c.if-not-all_stand.false in
    let meant = rw c.in-Resource.is at c.at.ensures.meant in
    let same = shape_found c.args.stage.now.shapes.now c.args.place c.get.result None c.get.ensures.lookup c.in-None.is in
    let is =
    subst (IsLooked ms (state_of c.args.stage.now.state.now).resources (shapes_of c.args.stage.now.shapes.now) (resolved_names_of c.args.kept.now) c.args.place c.args.is_wanted c.decide_block-in-None.result) c.declared.view_is
    (record { resolved = rw (all, meant, same) c.decide_block-in-None.ensures.resolved; decided = rw (meant, all, same) c.decide_block-in-None.ensures.decided }) in
    record { resolved = is.resolved; decided = is.decided }
