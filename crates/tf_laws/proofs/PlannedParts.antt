-- A plan that was made of what is sound, by its parts. What names stand for in the expansion and in the plan is chosen here
-- alone.
use Rattle.std.proofs.Common.{◌≡◌, ◌∙◌, ℕ, Bool, false, List, Some, map, sym, ap, subst}
use Rattle.std.specs.List.{AllByRecursion}
use Rattle.std.specs.List.Sorted.{IsStrictlySortedBy}
use Rattle.tf_config_address.specs.ResourceAddr.{addr_cmp}
use Rattle.tf_config_data.specs.Config.{ConfigView}
use Rattle.tf_config_data.specs.Names.{directly_before}
use Rattle.tf_laws.proofs.Declared.{Setting}
use Rattle.tf_laws.proofs.Lists.{all_weaker}
use Rattle.tf_laws.proofs.OwnParts.{plan_from}
use Rattle.tf_plan_decision.specs.Stage.{deciding}
use Rattle.tf_expand_keys.specs.Stages.{expansion}
use Rattle.tf_expand_keys.specs.Resolved.{ResolvedView, AreResolvedNames}
use Rattle.tf_expand_keys.specs.Expanding.{AreExpanded}
use Rattle.tf_graph.specs.Solutions.{Ranked}
use Rattle.tf_config_names.specs.Needs.{IsAcyclic}
use Rattle.tf_plan_planner.proofs.Blocks.{names-apart}
use Rattle.tf_plan_planner.proofs.Fitting.{AreFit, plan-fits}
use Rattle.tf_plan_planner.specs.Ordered.{IsOrdered}
use Rattle.tf_plan_planner.specs.Plan.{IsPlannedFrom}
use Rattle.tf_plan_planner.specs.Planned.{IsPlanned, unrefused}
use Rattle.tf_plan_data.specs.Plan.{PlanView, plan_names}
use Rattle.tf_provider_protocol.specs.Meaning.{Meaning, schema_in}
use Rattle.tf_provider_protocol.specs.Schema.{SchemaView, IsSchema}
use Rattle.tf_plan_order.specs.ResourceLaws as resources_laws
use Rattle.tf_plan_order.specs.ResourceIndex.{a_name}
use Rattle.tf_state.specs.Valid.{IsPresent, IsValid}
use Rattle.tf_state_data.specs.Addresses.{AreByAddress}
use Rattle.tf_state_data.specs.Ids.{AreById}
use Rattle.tf_state_data.specs.State.{StateView}
use Rattle.tf_value_data.specs.Tree.{Entries}
use Rattle.tf_laws.specs.Requests.{IsSoundPlan}

pub record Made : Type 0 where
  pub ms : List Meaning
  pub plan : PlanView
  pub planned : IsPlanned ms plan.prior.resources plan.variables (plan_names plan) plan.config.outputs plan.shapes (unrefused plan.actions)
  -- what names stand for in the plan
  pub resolved_names : ℕ → ResolvedView
  pub solves : AreResolvedNames (deciding ms plan.prior.resources plan.shapes) plan.variables (plan_names plan) resolved_names
  -- and in the expansion
  pub expanded : ℕ → ResolvedView
  pub expands : AreResolvedNames expansion plan.variables (plan_names plan) expanded
  pub are_expanded : AreExpanded plan.variables (plan_names plan) expanded plan.shapes
  pub ranked : Ranked (directly_before (plan_names plan))
  pub acyclic : (n : ℕ) → plan.needs n n ≡ false
  pub apart : resources_laws.AreApart (map a_name (plan_names plan))
  pub by_address : AreByAddress plan.prior.resources
  pub by_id : AllByRecursion (λ r. AreById r.records) plan.prior.resources
  pub ordered : IsOrdered (plan_names plan) plan.prior.resources plan.needs plan.late plan.actions plan.order
  pub fit : AreFit ms (plan_names plan) plan.prior.resources plan.actions
  pub schemas : (name : List ℕ) (schema : SchemaView) → schema_in name ms ≡ Some schema → IsSchema schema

abbrev pub setting : Made → Setting
setting x =
    record {
      ms = x.ms;
      variables = x.plan.variables;
      names = plan_names x.plan;
      outputs = x.plan.config.outputs;
      shapes = x.plan.shapes;
      resources = x.plan.prior.resources;
      actions = x.plan.actions;
      planned = x.planned;
      resolved_names = x.resolved_names;
      solves = x.solves;
      ranked = x.ranked;
      apart = x.apart;
      by_address = x.by_address;
      by_id = x.by_id;
    }

module _ (ms : List Meaning) (config : ConfigView) (variables : Entries) (prior : StateView) (plan : PlanView) (is : IsSoundPlan ms config variables prior plan) where
  pub own_planned : IsPlannedFrom ms plan.prior.resources plan.variables (plan_names plan) plan.config.outputs plan.needs plan.shapes plan.actions plan.late plan.order
  own_planned = plan_from ms config variables prior plan is.planned

  pub own_valid : IsValid plan.prior
  own_valid = subst IsValid (sym is.planned.prior) is.sound.valid

  pub own_blocks : IsStrictlySortedBy addr_cmp (map (λ b. b.addr) plan.config.blocks)
  own_blocks = subst (λ (c : ConfigView). IsStrictlySortedBy addr_cmp (map (λ b. b.addr) c.blocks)) (sym is.planned.config) is.sound.blocks

  pub own_acyclic : IsAcyclic (own_planned.ordered.tied.dependence)
  own_acyclic n = sym (ap (λ (f : ℕ → ℕ → Bool). f n n) own_planned.ordered.tied.needs) ∙ is.acyclic n

  pub own_ranked : Ranked (directly_before (plan_names plan))
  own_ranked = own_planned.ordered.tied.is_dependence.ranked own_acyclic

  pub own_by_id : AllByRecursion (λ r. AreById r.records) plan.prior.resources
  own_by_id = all_weaker IsPresent (λ r. AreById r.records) plan.prior.resources (λ r present. present.0.records.1) own_valid.resources.0

  unfoldable pub made : Made
  made =
      let apart = names-apart plan.config own_blocks in
      record {
        ms = ms;
        plan = plan;
        planned = own_planned.planned;
        resolved_names = own_planned.planned.resolved_names;
        solves = own_planned.planned.stand;
        expanded = own_planned.instances.resolved_names;
        expands = own_planned.instances.stand;
        are_expanded = own_planned.instances.expanded;
        ranked = own_ranked;
        acyclic = is.acyclic;
        apart = apart;
        by_address = own_valid.resources.1;
        by_id = own_by_id;
        ordered = own_planned.ordered;
        fit = plan-fits ms plan.prior.resources plan.variables (plan_names plan) plan.config.outputs plan.shapes plan.actions own_planned.instances own_planned.planned apart own_valid.resources.1 own_by_id;
        schemas = is.sound.schemas;
      }
