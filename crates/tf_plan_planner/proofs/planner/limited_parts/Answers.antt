use Rattle.std.proofs.Common.{List, IfErr, inr, map, subst}
use Rattle.tf_cli_inputs.proofs.Few.{few_names}
use Rattle.tf_cli_inputs.specs.declared.configuration.ConfigurationParts.{ConfigurationParts}
use Rattle.tf_config_data.specs.Config.{config_of}
use Rattle.tf_config_refusal.specs.Refusal.{RefusalView}
use Rattle.tf_plan_planner.proofs.Refusing.{refused-weaker}
use Rattle.tf_plan_planner.specs.Refused.{ArePlanRefusals, AreRefused, Tells}
use Rattle.tf_state_data.specs.State.{state_of}
use Rattle.tf_value_data.specs.Tree.{entries_view}
use Rattle.tf_plan_planner.proofs.planner.limited_parts.Goals as goal

pub plan_parts-requires-clause-few : goal.plan_parts-requires-clause-few
plan_parts-requires-clause-few g c =
    few_names (config_of c.configuration.inside.parts.config) (state_of c.args.prior.now) c.configuration.invariant.counts c.if-not-is_plannable.ensures.within

pub returns-clause-refused : goal.returns-clause-refused
returns-clause-refused g c =
    let ms = map (λ b. (goal.Provider-dyn g (b.vtable, b.value)).meaning b.value) c.args.providers.now in
    let values = entries_view c.args.variables.now.entries in
    let prior = state_of c.args.prior.now in
    let inside = c.configuration.inside.parts in
    subst (λ (p : ConfigurationParts). IfErr c.plan_parts.result (Tells (ArePlanRefusals ms (config_of p.config) values prior))) c.configuration.view_is
    (refused-weaker (AreRefused ms (config_of inside.config) values prior) (ArePlanRefusals ms (config_of inside.config) values prior) c.plan_parts.result (λ (refusal_views : List RefusalView) told. inr told) c.plan_parts.ensures.refused)
