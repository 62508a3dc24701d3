-- The outcome of each action of a plan.
use Rattle.std.specs.Prelude.{◌≡◌, ℕ, Bool, if◌then◌else◌, List, length, Option, Some, None, Result, Ok, Err, slice_get, slice_index_or}
use Rattle.std.specs.List.{list_all}
use Rattle.std.specs.Option.{option_map_or}
use Rattle.tf_plan_data.specs.Action.{ActionView}
use Rattle.tf_config_address.specs.ObjectId.{InstanceKeyView}
use Rattle.tf_plan_object.specs.Instance.{InstanceFaultView}
use Rattle.tf_graph.specs.Digraph.{predecessors_of}
use Rattle.tf_graph.specs.Solutions.{Solves}
use Rattle.tf_plan_data.specs.Plan.{PlanView, plan_names}
use Rattle.tf_provider_protocol.specs.Meaning.{Asked, Meaning, first_with, schema_in}
use Rattle.tf_provider_protocol.specs.Verdict.{verdict_on}
pub use Rattle.tf_provider_protocol.specs.Verdict.{is_good_verdict}
use Rattle.tf_value_data.specs.Tree.{Tree}
pub use Rattle.tf_walk_action.specs.Asked.{AreRequests, Requests, op_of}
use Rattle.tf_walk_action.specs.Asked.{asked_for}
pub use Rattle.tf_walk_action.specs.ActionResult.{ActionResultView, skipped, excused, faulted, called, excuse_in, is_faulted, is_good}
use Rattle.tf_walk_action.specs.Excuse.{Moment, excuse_of}
pub use Rattle.tf_walk_action.specs.Objects.{objects_seen}
use Rattle.tf_walk_action.specs.declared.excuse.Excuse.{Excuse}

-- a provider's answer, and the verdict on it by that provider's schema
abbrev pub call_of_provider : Asked → Meaning → ActionResultView
call_of_provider asked m = option_map_or (λ s. called asked (Some (m.answer asked)) (verdict_on asked (Some (m.answer asked)) s)) (m.schema_of asked.type_name) skipped

-- the result of a call of the first provider that has the type (a type that no provider has isn't planned)
abbrev pub call_of : List Meaning → Asked → ActionResultView
call_of ms asked = option_map_or (call_of_provider asked) (first_with asked.type_name ms) skipped

-- the result of a request, or of its fault
abbrev pub comes_of : List Meaning → Result Asked InstanceFaultView → ActionResultView
comes_of ms (Ok asked) = call_of ms asked
comes_of ms (Err why) = faulted why

-- the result of an action that is called, with these objects for instances
abbrev pub call_with : List Meaning → Requests → PlanView → (ℕ → InstanceKeyView → Tree) → ActionView → ActionResultView
call_with ms requests plan objects a =
    option_map_or (λ schema. comes_of ms (asked_for (plan_names plan) schema a (requests objects a schema))) (schema_in a.addr.type_name ms) skipped

-- the objects of instances after the given actions of a plan
abbrev pub objects_by : PlanView → List (ℕ × ActionResultView) → ℕ → InstanceKeyView → Tree
objects_by plan seen = objects_seen (plan_names plan) plan.prior plan.actions seen

-- the result of the action at a place of the list if it is called
abbrev pub call_at : List Meaning → Requests → PlanView → ℕ → List (ℕ × ActionResultView) → ActionResultView
call_at ms requests plan n seen = option_map_or (call_with ms requests plan (objects_by plan seen)) (slice_get plan.actions n) skipped

abbrev pub or_excused : Option Moment → ActionResultView → ActionResultView
or_excused None d = d
or_excused (Some m) d = excused m

-- all actions directly before an action are good
abbrev pub all_good : List (ℕ × ActionResultView) → Bool
all_good seen = list_all (λ e. is_good e.1) seen

-- The rule. An action is skipped if one directly before it isn't good. Otherwise it is excused if the excuses name
-- it, faulted if its request has a fault, and else its provider is called. In its request, an instance has the object
-- that its provider answered to an action directly before it; these include each create and update that it needs. An
-- instance for which nothing is planned has its prior object.
abbrev pub rule : List Meaning → Requests → PlanView → List Excuse → ℕ → List (ℕ × ActionResultView) → ActionResultView
rule ms requests plan excuses n seen = if all_good seen then or_excused (excuse_of excuses n) (call_at ms requests plan n seen) else skipped

-- the result of an action, in a list of the results of all actions
abbrev pub done_at : List ActionResultView → ℕ → ActionResultView
done_at done n = slice_index_or done n skipped

-- Each action has the result that the rule gives it by those directly before it. As no action is before itself, there
-- is at most one such list for given excuses.
pub record AreOutcomes (ms : List Meaning) (requests : Requests) (plan : PlanView) (excuses : List Excuse) (done : List ActionResultView) : Type 0 where
  pub all : length done ≡ length plan.actions
  pub solves : Solves (length plan.actions) (predecessors_of plan.order) (rule ms requests plan excuses) (done_at done)
