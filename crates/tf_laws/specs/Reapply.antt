-- That after an apply that went well nothing is left to do.
use Rattle.std.specs.Prelude.{◌≡◌, ℕ, true, false, List, [], map, Some, Ok, Contains}
use Rattle.std.specs.List.{AllByRecursion}
use Rattle.std.specs.List.Sorted.{IsStrictlySortedBy}
use Rattle.tf_plan_data.specs.Action.{ActionView}
use Rattle.tf_config_address.specs.ResourceAddr.{addr_cmp}
use Rattle.tf_config_address.specs.ObjectId.{InstanceKeyView}
use Rattle.tf_plan_order.specs.AddressOrder.{AreInAddressOrder}
use Rattle.tf_plan_object.specs.Instance.{instance_object}
use Rattle.tf_config_data.specs.Config.{BlockView, ConfigView}
use Rattle.tf_config_data.specs.Names.{a_block, meant_at}
use Rattle.tf_expand_keys.specs.InstanceKeys.{instance_keys}
use Rattle.tf_expand_keys.specs.Stages.{applying}
use Rattle.tf_expand_keys.specs.Resolved.{ResolvedView, AreResolvedNames, environment}
use Rattle.tf_plan_order.specs.Members.{is_among}
use Rattle.tf_state_next.specs.Laws.{IsInOrder}
use Rattle.tf_walk_action.specs.Outcome.{AreOutcomes, AreRequests, ActionResultView, Requests, is_good}
use Rattle.tf_walk_action.specs.declared.excuse.Excuse.{Excuse}
use Rattle.tf_walk_action.specs.declared.excuse.Outcome.TheVariants.{Judged}
use Rattle.tf_walk_outputs.specs.Outputs.{OutputResultView, valued}
use Rattle.tf_plan_planner.specs.Plan.{IsPlan}
use Rattle.tf_plan_planner.specs.Planned.{IsPlanned, unrefused}
use Rattle.tf_plan_data.specs.Fits.{is_apply}
use Rattle.tf_plan_data.specs.Plan.{PlanView, plan_names}
use Rattle.tf_provider_protocol.specs.Meaning.{Meaning, schema_in}
use Rattle.tf_provider_protocol.specs.Schema.{SchemaView, IsSchema}
use Rattle.tf_provider_protocol.specs.declared.verdict.Verdict.TheVariants.{Good}
use Rattle.tf_walk_report.specs.Report.{AreOutputsOf, IsReport, IsStateOf, objects_after}
use Rattle.tf_walk_report.specs.declared.report.Report.{Report}
use Rattle.tf_plan_order.specs.ResourceIndex.{numbered}
use Rattle.tf_state.specs.Valid.{IsValid}
use Rattle.tf_state_data.specs.State.{StateView, state_of}
use Rattle.tf_value_data.specs.Known.{known_entries}
use Rattle.tf_value_data.specs.Tree.{Tree, Entries}
use Rattle.tf_laws.specs.Rest.{AreAtRest, EachMeans}

-- The inputs of a plan are sound: blocks are in address order, providers have schemas, the values of variables are known, and
-- the prior state is valid. A schema that `Schema::new` makes meets its part of this, and so do a state, a configuration and
-- variables that were read.
pub record IsSound (ms : List Meaning) (config : ConfigView) (variables : Entries) (prior : StateView) : Type 0 where
  pub blocks : IsStrictlySortedBy addr_cmp (map (λ b. b.addr) config.blocks)
  pub schemas : (name : List ℕ) (schema : SchemaView) → schema_in name ms ≡ Some schema → IsSchema schema
  pub variables_known : known_entries variables ≡ true
  pub valid : IsValid prior

-- A plan from a prior state was carried out well, and left this state: no name of its configuration needs itself, each action
-- is good, and the state is the one that results, with whatever outputs.
pub record IsCarriedOut (ms : List Meaning) (config : ConfigView) (variables : Entries) (prior : StateView) (plan : PlanView) (done : List ActionResultView) (outputs : Entries) (after : StateView) : Type 0 where
  pub planned : IsPlan ms config variables prior plan
  pub acyclic : (n : ℕ) → plan.needs n n ≡ false
  pub requests : Requests
  pub are_requests : AreRequests plan requests
  pub excuses : List Excuse
  pub outcomes : AreOutcomes ms requests plan excuses done
  pub good : AllByRecursion (λ d. is_good d ≡ true) done
  pub state : IsStateOf ms plan done outputs after
  pub in_order : IsInOrder after

-- The state after such an apply is at rest. Each record in it is the current one of an instance that a block has; each instance
-- has one, with its object, and no change of it is decided by what its block gives if resources have these objects.
abbrev pub StateAfterIsAtRest : Type 0
StateAfterIsAtRest =
    (ms : List Meaning) (config : ConfigView) (variables : Entries) (prior : StateView) (plan : PlanView) (done : List ActionResultView) (outputs : Entries) (after : StateView)
    → IsSound ms config variables prior → IsCarriedOut ms config variables prior plan done outputs after
    → AreAtRest ms plan.variables (plan_names plan) plan.shapes (objects_after plan done) after.resources

-- So the same configuration and variables plan no action over that state, whatever existed before. Objects may have been
-- created, changed, replaced, deposed, destroyed or left alone, with tainted objects, orphans, ignored changes, computed
-- attributes, `count` and `for_each`.
-- A plan exists only if nothing is refused. Two things can be refused after an apply that went well: an output that has a fault
-- by now, and an instance that the apply left alone, if its `for_each` or an argument has a fault now that more is known. An
-- ignored argument may have one. What isn't refused isn't planned as anything else.
abbrev pub Converges : Type 0
Converges =
    (ms : List Meaning) (config : ConfigView) (variables : Entries) (prior : StateView) (plan : PlanView) (done : List ActionResultView) (outputs : Entries) (after : StateView) (again : PlanView)
    → IsSound ms config variables prior → IsCarriedOut ms config variables prior plan done outputs after
    → IsPlan ms config variables after again → again.actions ≡ []

-- What could have a fault by now has no fault, if names have their values after the apply: blocks give objects for the
-- instances that no action created or updated, and outputs have values.
pub record AreStillMade (ms : List Meaning) (plan : PlanView) (done : List ActionResultView) : Type 0 where
  pub instances : (resolved_names : ℕ → ResolvedView) → AreResolvedNames (applying plan.shapes (objects_after plan done)) plan.variables (plan_names plan) resolved_names
      → (n : ℕ) (block : BlockView) (key : InstanceKeyView) (schema : SchemaView) → meant_at (plan_names plan) n ≡ Some (a_block block) → is_among (instance_keys (plan.shapes n)) key ≡ true
      → schema_in block.addr.type_name ms ≡ Some schema
      → ((a : ActionView) → Contains plan.actions a → is_apply a.step ≡ true → a.resource ≡ n → ¬ (a.key ≡ key))
      → (t : Tree) × (instance_object schema block key (environment plan.variables (plan_names plan) resolved_names) ≡ Ok t)
  pub outputs_mean : (resolved_names : ℕ → ResolvedView) → AreResolvedNames (applying plan.shapes (objects_after plan done)) plan.variables (plan_names plan) resolved_names
      → EachMeans (environment plan.variables (plan_names plan) resolved_names) plan.config.outputs

-- Then there is such a plan: in each address order of the resources nothing is planned and nothing refused.
abbrev pub NothingIsRefusedAgain : Type 0
NothingIsRefusedAgain =
    (ms : List Meaning) (config : ConfigView) (variables : Entries) (prior : StateView) (plan : PlanView) (done : List ActionResultView) (outputs : Entries) (after : StateView) (places : List ℕ)
    → IsSound ms config variables prior → IsCarriedOut ms config variables prior plan done outputs after → AreStillMade ms plan done
    → AreInAddressOrder (numbered (plan_names plan) after.resources) places
    → IsPlanned ms after.resources plan.variables (plan_names plan) plan.config.outputs plan.shapes (unrefused [])

-- it has a value
abbrev pub IsValued : OutputResultView → Type 0
IsValued d = (t : Tree) × (d ≡ valued t)

-- If the apply gave each output a value, outputs have values.
abbrev pub ValuedOutputsMean : Type 0
ValuedOutputsMean =
    (plan : PlanView) (done : List ActionResultView) (outputs : List OutputResultView) (resolved_names : ℕ → ResolvedView)
    → AreOutputsOf plan done outputs → AllByRecursion IsValued outputs
    → AreResolvedNames (applying plan.shapes (objects_after plan done)) plan.variables (plan_names plan) resolved_names
    → EachMeans (environment plan.variables (plan_names plan) resolved_names) plan.config.outputs

-- The same law for a report, by any number of workers: if each outcome in it is a good verdict, the same configuration and
-- variables plan no action over its state.
abbrev pub ReportsConverge : Type 0
ReportsConverge =
    (ms : List Meaning) (config : ConfigView) (variables : Entries) (prior : StateView) (plan again : PlanView) (requests : Requests) (done : List ActionResultView) (outputs : List OutputResultView) (report : Report)
    → IsSound ms config variables prior → IsPlan ms config variables prior plan → ((n : ℕ) → plan.needs n n ≡ false) → AreRequests plan requests
    → IsReport ms requests plan done outputs report → AllByRecursion (λ o. o ≡ Judged Good) report.outcomes.items
    → IsPlan ms config variables (state_of report.state) again → again.actions ≡ []
