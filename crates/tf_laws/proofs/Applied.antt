-- An apply that went well, and what it starts from.
use Rattle.std.proofs.Common.{◌≡◌, ℕ, true, List, Some, map}
use Rattle.std.specs.List.{AllByRecursion}
use Rattle.tf_walk_buffers.specs.Head.{AreHeads, Head}
use Rattle.tf_config_data.specs.Names.{directly_before}
use Rattle.tf_plan_decision.specs.Stage.{deciding}
use Rattle.tf_expand_keys.specs.Resolved.{ResolvedView, AreResolvedNames}
use Rattle.tf_graph.specs.Solutions.{Ranked}
use Rattle.tf_state_next.specs.Events.{ends_in, given_in}
use Rattle.tf_state_next.specs.Laws.{IsInOrder}
use Rattle.tf_state_next.specs.StateAfter.{IsStateAfter}
use Rattle.tf_walk_action.specs.Asked.{AreRequests, Requests}
use Rattle.tf_walk_action.specs.Outcome.{AreOutcomes, ActionResultView, is_good}
use Rattle.tf_walk_action.specs.declared.excuse.Excuse.{Excuse}
use Rattle.tf_plan_planner.proofs.Fitting.{AreFit}
use Rattle.tf_plan_planner.specs.Ordered.{IsOrdered}
use Rattle.tf_plan_planner.specs.Planned.{IsPlanned, unrefused}
use Rattle.tf_plan_data.specs.Plan.{PlanView, plan_names}
use Rattle.tf_provider_protocol.specs.Meaning.{Meaning, schema_in}
use Rattle.tf_provider_protocol.specs.Schema.{SchemaView, IsSchema}
use Rattle.tf_walk_report.specs.Events.{events}
use Rattle.tf_plan_order.specs.ResourceLaws as resources_laws
use Rattle.tf_plan_order.specs.ResourceIndex.{a_name}
use Rattle.tf_state.specs.Valid.{IsValid}
use Rattle.tf_state_data.specs.Addresses.{AreByAddress}
use Rattle.tf_state_data.specs.Ids.{AreById}
use Rattle.tf_state_data.specs.State.{StateView}
use Rattle.tf_value_data.specs.Known.{known_entries}
use Rattle.tf_value_data.specs.Tree.{Entries}
use Rattle.tf_laws.proofs.Declared.{Setting}

pub record Applied : Type 0 where
  pub ms : List Meaning
  pub requests : Requests
  pub plan : PlanView
  pub excuses : List Excuse
  pub done : List ActionResultView
  pub heads : List Head
  pub outputs : Entries
  pub after : StateView
  -- what was planned
  pub planned : IsPlanned ms plan.prior.resources plan.variables (plan_names plan) plan.config.outputs plan.shapes (unrefused plan.actions)
  pub resolved_names : ℕ → ResolvedView
  pub solves : AreResolvedNames (deciding ms plan.prior.resources plan.shapes) plan.variables (plan_names plan) resolved_names
  pub ranked : Ranked (directly_before (plan_names plan))
  pub apart : resources_laws.AreApart (map a_name (plan_names plan))
  pub by_address : AreByAddress plan.prior.resources
  pub by_id : AllByRecursion (λ r. AreById r.records) plan.prior.resources
  pub ordered : IsOrdered (plan_names plan) plan.prior.resources plan.needs plan.late plan.actions plan.order
  pub fit : AreFit ms (plan_names plan) plan.prior.resources plan.actions
  pub schemas : (name : List ℕ) (schema : SchemaView) → schema_in name ms ≡ Some schema → IsSchema schema
  pub variables_known : known_entries plan.variables ≡ true
  pub valid : IsValid plan.prior
  -- what came of it
  pub are_requests : AreRequests plan requests
  pub outcomes : AreOutcomes ms requests plan excuses done
  pub good : AllByRecursion (λ d. is_good d ≡ true) done
  pub are_heads : AreHeads plan plan.actions heads
  pub state : IsStateAfter plan.prior (given_in (events ms plan heads done)) (ends_in (events ms plan heads done)) outputs after
  pub in_order : IsInOrder after

abbrev pub setting : Applied → Setting
setting x =
    record {
      ms = x.ms;
      variables = x.plan.variables;
      names = plan_names x.plan;
      outputs = x.plan.config.outputs;
      shapes = x.plan.shapes;
      resources = x.plan.prior.resources;
      actions = x.plan.actions;
      planned = x.planned;
      resolved_names = x.resolved_names;
      solves = x.solves;
      ranked = x.ranked;
      apart = x.apart;
      by_address = x.by_address;
      by_id = x.by_id;
    }
