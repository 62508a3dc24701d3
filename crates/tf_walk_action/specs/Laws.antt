-- Laws on the requests of an apply.
use Rattle.std.specs.Prelude.{◌≡◌, ℕ, true}
use Rattle.tf_plan_data.specs.Action.{ActionView}
use Rattle.tf_config_address.specs.ObjectId.{InstanceKeyView}
use Rattle.tf_config_data.specs.Names.{meant_at, directly_before}
use Rattle.tf_graph.specs.Solutions.{Ranked}
use Rattle.tf_plan_data.specs.Plan.{PlanView, plan_names}
use Rattle.tf_provider_protocol.specs.Schema.{SchemaView}
use Rattle.tf_walk_names.specs.Resolving.{is_resource}
use Rattle.tf_value_data.specs.Tree.{Tree}
use Rattle.tf_walk_action.specs.Asked.{Requests, AreRequests}

-- If no name of a plan's configuration needs itself, requests exist.
abbrev pub RequestsExist : Type 0
RequestsExist = (plan : PlanView) → Ranked (directly_before (plan_names plan)) → (requests : Requests) × AreRequests plan requests

-- The request is unique for each action of a resource that has a block. Each create and each update is one of these.
abbrev pub RequestsAreOne : Type 0
RequestsAreOne =
    (plan : PlanView) (requests others : Requests)
    → Ranked (directly_before (plan_names plan)) → AreRequests plan requests → AreRequests plan others
    → (objects : ℕ → InstanceKeyView → Tree) (a : ActionView) (schema : SchemaView) → is_resource (meant_at (plan_names plan) a.resource) ≡ true
    → requests objects a schema ≡ others objects a schema
