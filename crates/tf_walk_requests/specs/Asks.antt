-- What an action of a plan requests, by the objects of earlier actions.
use Rattle.std.specs.Prelude.{◌≡◌, ℕ, Bool, true, false, List, [], Option, None, Some, Result, Contains, slice_get}
use Rattle.tf_graph.specs.Digraph.{predecessors_of}
use Rattle.tf_graph.specs.Solutions.{seen_by}
use Rattle.tf_plan_data.specs.Action.{ActionView}
use Rattle.tf_plan_data.specs.Fits.{is_apply}
use Rattle.tf_plan_data.specs.Plan.{PlanView, plan_names}
use Rattle.tf_plan_object.specs.Instance.{InstanceFaultView}
use Rattle.tf_provider_protocol.specs.Meaning.{Asked, Meaning, object, schema_in}
use Rattle.tf_provider_protocol.specs.Schema.{SchemaView}
use Rattle.tf_provider_protocol.specs.declared.request.Op.TheVariants.{Create}
use Rattle.tf_provider_protocol.specs.declared.verdict.Verdict.TheVariants.{Good}
use Rattle.tf_value_data.specs.Tree.{Tree}
use Rattle.tf_walk_action.specs.ActionResult.{ActionResultView, called}
use Rattle.tf_walk_action.specs.Asked.{AreRequests, Requests, asked_for}
use Rattle.tf_walk_action.specs.Objects.{object_of}
use Rattle.tf_walk_action.specs.Outcome.{objects_by}

-- an action of the list creates or updates an object
abbrev pub applies : Option ActionView → Bool
applies None = false
applies (Some a) = is_apply a.step

-- the creates and updates directly before an action have these objects
abbrev pub HaveObjects : PlanView → ℕ → (ℕ → Tree) → (ℕ → ActionResultView) → Type 0
HaveObjects plan n objects done = (m : ℕ) → Contains (predecessors_of plan.order n) m → applies (slice_get plan.actions m) ≡ true → object_of (done m) ≡ objects m

-- The answer is what action n requests, or the fault of its request, by the definition of an apply's requests: whatever the
-- results of the actions directly before it are, if the creates and updates among them have these objects. The schema is the first provider's that has
-- the action's type.
pub record IsAskedOf (ms : List Meaning) (plan : PlanView) (n : ℕ) (objects : ℕ → Tree) (answer : Result Asked InstanceFaultView) : Type 0 where
  pub action : ActionView
  pub schema : SchemaView
  pub is_action : slice_get plan.actions n ≡ Some action
  pub is_schema : schema_in action.addr.type_name ms ≡ Some schema
  pub asks : (requests : Requests) (done : ℕ → ActionResultView) → AreRequests plan requests → HaveObjects plan n objects done
      → asked_for (plan_names plan) schema action (requests (objects_by plan (seen_by done (predecessors_of plan.order n))) action schema) ≡ answer

-- ---- results of actions that have given objects

-- a request that is of no account
abbrev pub some_request : Asked
some_request = record { op = Create; address = []; type_name = []; deposed = None; prior = None; object = None }

-- a good result of each action, with its object
abbrev pub results_with : (ℕ → Tree) → ℕ → ActionResultView
results_with objects m = called some_request (Some (object (objects m))) Good
