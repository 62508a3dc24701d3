-- The values of names in a plan from any prior state.
use Rattle.std.specs.Prelude.{ℕ, Bool, false, ◌||◌, if◌then◌else◌, is_none, List, [], Option, Some, None, option_map, option_and_then, Result, Ok, Err}
use Rattle.std.specs.List.{list_all}
use Rattle.std.specs.Option.{option_map_or}
use Rattle.tf_config_address.specs.ResourceAddr.{ResourceAddrView}
use Rattle.tf_config_address.specs.ObjectId.{InstanceKeyView}
use Rattle.tf_plan_object.specs.Instance.{instance_object}
use Rattle.tf_config_data.specs.Config.{BlockView, LifecycleView}
use Rattle.tf_plan_decision.specs.Decision.{DecisionView, DecisionFaultView, nothing, create, update, replace, current, decision, removal_fault}
use Rattle.tf_expand_keys.specs.InstanceKeys.{InstanceKeysView, instance_keys}
use Rattle.tf_expand_keys.specs.Resolved.{ResourceValuesView, ResolvedView, together}
use Rattle.tf_expr_eval.specs.Environment.{Environment}
use Rattle.tf_plan_order.specs.Members.{InstanceToPlanView, members, records_of}
use Rattle.tf_provider_protocol.specs.Meaning.{Meaning, schema_in}
use Rattle.tf_provider_protocol.specs.Schema.{SchemaView}
use Rattle.tf_state_data.specs.Record.{RecordView}
use Rattle.tf_state_data.specs.Resource.{ResourceView}
use Rattle.tf_state_data.specs.State.{resource_at}
use Rattle.tf_value_data.specs.Tree.{Tree}

-- the records of the resource at an address; there are no records if the state doesn't have the resource
abbrev pub records_at : ResourceAddrView → List ResourceView → List RecordView
records_at addr resources = option_map_or (λ r. r.records) (resource_at addr resources) []

-- The planned object of an instance by its current object and the decision: the object that is asked for, or the
-- current one if nothing is done.
abbrev pub object_beside : Option RecordView → DecisionView → Option Tree
object_beside prior nothing = option_map (λ r. r.attributes) prior
object_beside prior (create asked) = Some asked
object_beside prior (update asked names) = Some asked
object_beside prior (replace asked names) = Some asked

-- the planned object of an instance, or nothing if it is refused
abbrev pub object_unless_refused : List RecordView → Result DecisionView DecisionFaultView → Option Tree
object_unless_refused records (Ok d) = object_beside (current records) d
object_unless_refused records (Err why) = None

-- the planned object of an instance with these records
abbrev pub object_of : SchemaView → BlockView → List RecordView → Environment → InstanceKeyView → Option Tree
object_of schema block records env key = object_unless_refused records (decision schema block.lifecycle records (instance_object schema block key env))

-- The planned object of an instance of a block, by the schema of the first provider that has its type and by its
-- records in the state, or nothing if no provider has the type.
abbrev pub decided_object : List Meaning → List ResourceView → ℕ → BlockView → Environment → InstanceKeyView → Option Tree
decided_object ms resources n block env key =
    option_and_then (λ schema. object_of schema block (records_of key (records_at block.addr resources)) env key) (schema_in block.addr.type_name ms)

-- the members of a configured resource
abbrev pub block_members : InstanceKeysView → BlockView → List ResourceView → List InstanceToPlanView
block_members shape block resources = members (instance_keys shape) (records_at block.addr resources)

-- the objects of an instance that only the state has can be destroyed
abbrev pub can_go : Option SchemaView → LifecycleView → InstanceToPlanView → Bool
can_go None lifecycle m = false
can_go (Some schema) lifecycle m = is_none (removal_fault schema (Some lifecycle) m.records)

-- the configuration has an instance, or its objects can be destroyed
abbrev pub stays_or_goes : Option SchemaView → LifecycleView → InstanceToPlanView → Bool
stays_or_goes schema lifecycle m = m.is_declared || can_go schema lifecycle m

-- no instance is refused that the configuration doesn't have
abbrev pub all_can_go : List Meaning → List ResourceView → InstanceKeysView → BlockView → Bool
all_can_go ms resources shape block = list_all (stays_or_goes (schema_in block.addr.type_name ms) block.lifecycle) (block_members shape block resources)

-- the value of a block's resource with this shape, or nothing if an instance of it is refused
abbrev pub block_standing : List Meaning → List ResourceView → ℕ → InstanceKeysView → BlockView → Environment → ResolvedView
block_standing ms resources n shape block env = together (if all_can_go ms resources shape block then Some shape else None) (decided_object ms resources n block env)

-- The plan's stage. A resource has the instances that the expansion gave it, each with its planned object. It resolves
-- to nothing if an instance of it is refused, even one that the configuration doesn't have.
abbrev pub deciding : List Meaning → List ResourceView → (ℕ → InstanceKeysView) → ResourceValuesView
deciding ms resources shapes =
    record { shape = λ n block env. if all_can_go ms resources (shapes n) block then Some (shapes n) else None; object = decided_object ms resources }
