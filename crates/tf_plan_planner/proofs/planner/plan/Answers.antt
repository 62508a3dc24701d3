use Rattle.std.proofs.Common.{ℕ, false, map, ap, sym, subst, refl}
use Rattle.std.specs.Prelude.{slice_index_or}
use Rattle.tf_cli_inputs.proofs.Few.{has_next}
use Rattle.tf_cli_inputs.specs.declared.configuration.ConfigurationParts.{ConfigurationParts}
use Rattle.tf_config_data.specs.Config.{config_of}
use Rattle.tf_config_data.specs.Names.{names_of}
use Rattle.tf_config_names.specs.Needs.{needs_in}
use Rattle.tf_expand_keys.specs.Views.{shapes_of}
use Rattle.tf_plan_data.specs.Action.{action_of}
use Rattle.tf_plan_planner.proofs.Fitting.{made-fits}
use Rattle.tf_plan_planner.specs.Plan.{IsPlannedFrom}
use Rattle.tf_state_data.specs.State.{state_of}
use Rattle.tf_value_data.specs.Tree.{entries_view}
use Rattle.tf_plan_planner.proofs.planner.plan.Goals as goal

pub invariant_of-result-in-Ok : goal.invariant_of-result-in-Ok
invariant_of-result-in-Ok g c =
    let ms = map (λ b. (goal.Provider-dyn g (b.vtable, b.value)).meaning b.value) c.args.providers.now in
    let made = c.in-Ok.parts in
    let planned =
    subst (λ (p : ConfigurationParts). IsPlannedFrom ms (state_of c.args.prior).resources (entries_view c.args.variables.entries) (names_of (config_of p.config)) (config_of p.config).outputs (needs_in p.dependence) (shapes_of made.shapes.items) (map action_of made.actions.items) (λ (n : ℕ). slice_index_or made.late.items n false) made.order)
    (sym c.configuration.view_is) c.in-Ok.ensures.planned in
    let fit = made-fits _ _ _ _ c.args.prior _ _ _ _ _ c.blocks_are_apart.ensures planned in
    record {
      dependence = c.configuration.invariant.dependence;
      acyclic = c.configuration.invariant.acyclic;
      placed = fit.placed;
      declared = fit.declared;
      apart = fit.apart;
      serial = has_next (state_of c.args.prior) c.in-Ok.ensures.within;
    }

pub returns-in-Ok-clause-served : goal.returns-in-Ok-clause-served
returns-in-Ok-clause-served g c =
    let ms = map (λ b. (goal.Provider-dyn g (b.vtable, b.value)).meaning b.value) c.args.providers.now in
    let made = c.in-Ok.parts in
    let planned =
    subst (λ (p : ConfigurationParts). IsPlannedFrom ms (state_of c.args.prior).resources (entries_view c.args.variables.entries) (names_of (config_of p.config)) (config_of p.config).outputs (needs_in p.dependence) (shapes_of made.shapes.items) (map action_of made.actions.items) (λ (n : ℕ). slice_index_or made.late.items n false) made.order)
    (sym c.configuration.view_is) c.in-Ok.ensures.planned in
    let fit = made-fits _ _ _ _ c.args.prior _ _ _ _ _ c.blocks_are_apart.ensures planned in
    fit.served

pub returns-in-Ok-clause-planned : goal.returns-in-Ok-clause-planned
returns-in-Ok-clause-planned g c =
    let ms = map (λ b. (goal.Provider-dyn g (b.vtable, b.value)).meaning b.value) c.args.providers.now in
    let made = c.in-Ok.parts in
    record {
      prior = refl;
      config = ap (λ (p : ConfigurationParts). config_of p.config) c.configuration.view_is;
      variables = refl;
      planned =
          subst (λ (p : ConfigurationParts). IsPlannedFrom ms (state_of c.args.prior).resources (entries_view c.args.variables.entries) (names_of (config_of c.args.configuration.config)) (config_of c.args.configuration.config).outputs (needs_in p.dependence) (shapes_of made.shapes.items) (map action_of made.actions.items) (λ (n : ℕ). slice_index_or made.late.items n false) made.order)
          (sym c.configuration.view_is) c.in-Ok.ensures.planned;
    }
