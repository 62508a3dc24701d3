-- States over which a configuration has nothing left to do.
use Rattle.std.specs.Prelude.{◌≡◌, ℕ, true, List, [], ◌∷◌, Some, None, Ok, ⊤}
use Rattle.std.specs.List.{AllByRecursion}
use Rattle.tf_plan_data.specs.Action.{ActionView}
use Rattle.tf_config_address.specs.ObjectId.{InstanceKeyView}
use Rattle.tf_plan_order.specs.AddressOrder.{AreInAddressOrder}
use Rattle.tf_plan_object.specs.Instance.{instance_object}
use Rattle.tf_config_data.specs.Config.{BlockView}
use Rattle.tf_config_data.specs.Names.{NameView, a_block, meant_at, directly_before}
use Rattle.tf_plan_decision.specs.Stage.{records_at}
use Rattle.tf_plan_decision.specs.Decision.{change, nothing}
use Rattle.tf_plan_decision.specs.Ignored.{ignored_fault}
use Rattle.tf_plan_decision.specs.Prior.{first_unfit}
use Rattle.tf_expand_keys.specs.InstanceKeys.{InstanceKeysView, instance_keys}
use Rattle.tf_expand_keys.specs.Stages.{applying}
use Rattle.tf_expand_keys.specs.Resolved.{ResolvedView, AreResolvedNames, environment}
use Rattle.tf_expr_eval.specs.Environment.{Environment}
use Rattle.tf_expr_eval.specs.ExprMeaning.{meaning}
use Rattle.tf_graph.specs.Solutions.{Ranked}
use Rattle.tf_plan_order.specs.Members.{is_among, records_of}
use Rattle.tf_plan_planner.specs.Planned.{IsPlanned, unrefused}
use Rattle.tf_provider_protocol.specs.Meaning.{Meaning, schema_in}
use Rattle.tf_provider_protocol.specs.Schema.{SchemaView}
use Rattle.tf_plan_order.specs.ResourceIndex.{has_block, numbered}
use Rattle.tf_state_data.specs.Record.{RecordView}
use Rattle.tf_state_data.specs.Resource.{ResourceView}
use Rattle.tf_expr_syntax.specs.ExprTree as expr
use Rattle.tf_value_data.specs.Tree.{Tree, Entries}

-- An instance with these records is at rest in this environment: its only record is the current one and holds the instance's
-- object, and no change of it is decided by what the instance's block gives.
pub record IsResting (ms : List Meaning) (block : BlockView) (key : InstanceKeyView) (env : Environment) (object : Tree) (records : List RecordView) : Type 0 where
  pub only : RecordView
  pub alone : records ≡ only ∷ []
  pub current : only.id.deposed ≡ None
  pub stands : only.attributes ≡ object
  pub rests : (schema : SchemaView) (made : Tree) → schema_in block.addr.type_name ms ≡ Some schema → instance_object schema block key env ≡ Ok made
      → change schema block.lifecycle.ignore_changes (Some only) made ≡ nothing

-- The resources of a state are at rest. Each has a block, and each record of one is of an instance that the block has; and each
-- instance is at rest if resources have these objects for their instances.
pub record AreAtRest (ms : List Meaning) (variables : Entries) (names : List NameView) (shapes : ℕ → InstanceKeysView) (objects : ℕ → InstanceKeyView → Tree) (resources : List ResourceView) : Type 0 where
  pub blocks : AllByRecursion (λ r. has_block names r.addr ≡ true) resources
  pub declared : (n : ℕ) (block : BlockView) → meant_at names n ≡ Some (a_block block) → AllByRecursion (λ x. is_among (instance_keys (shapes n)) x.id.key ≡ true) (records_at block.addr resources)
  pub rest : (resolved_names : ℕ → ResolvedView) → AreResolvedNames (applying shapes objects) variables names resolved_names
      → (n : ℕ) (block : BlockView) (key : InstanceKeyView) → meant_at names n ≡ Some (a_block block) → is_among (instance_keys (shapes n)) key ≡ true
      → IsResting ms block key (environment variables names resolved_names) (objects n key) (records_of key (records_at block.addr resources))

-- Over resources at rest nothing is planned: if no name needs itself, each plan without a refusal has no action. In that plan
-- names have the values that they have if resources have the objects at rest.
abbrev pub NothingIsPlannedAtRest : Type 0
NothingIsPlannedAtRest =
    (ms : List Meaning) (variables : Entries) (names : List NameView) (outputs : expr.Entries) (shapes : ℕ → InstanceKeysView) (objects : ℕ → InstanceKeyView → Tree) (resources : List ResourceView) (actions : List ActionView)
    → Ranked (directly_before names) → AreAtRest ms variables names shapes objects resources
    → IsPlanned ms resources variables names outputs shapes (unrefused actions) → actions ≡ []

-- ---- and nothing is refused

-- A plan doesn't refuse an instance with these records in this environment: a provider has its type, the records fit the
-- schema, no name in `ignore_changes` is unknown, and the block gives an object for it.
pub record IsUnrefused (ms : List Meaning) (block : BlockView) (key : InstanceKeyView) (env : Environment) (records : List RecordView) : Type 0 where
  pub schema : SchemaView
  pub served : schema_in block.addr.type_name ms ≡ Some schema
  pub fits : first_unfit schema records ≡ None
  pub heeded : ignored_fault schema block.lifecycle.ignore_changes ≡ None
  pub made : Tree
  pub makes : instance_object schema block key env ≡ Ok made

-- each output has a value
abbrev pub EachMeans : Environment → expr.Entries → Type 0
EachMeans env expr.no_entries = ⊤
EachMeans env (expr.entry name e es) = ((t : Tree) × (meaning env e ≡ Ok t)) × EachMeans env es

-- No instance and no output is refused if resources have these objects for their instances.
pub record AreUnrefused (ms : List Meaning) (variables : Entries) (names : List NameView) (outputs : expr.Entries) (shapes : ℕ → InstanceKeysView) (objects : ℕ → InstanceKeyView → Tree) (resources : List ResourceView) : Type 0 where
  pub instances : (resolved_names : ℕ → ResolvedView) → AreResolvedNames (applying shapes objects) variables names resolved_names
      → (n : ℕ) (block : BlockView) (key : InstanceKeyView) → meant_at names n ≡ Some (a_block block) → is_among (instance_keys (shapes n)) key ≡ true
      → IsUnrefused ms block key (environment variables names resolved_names) (records_of key (records_at block.addr resources))
  pub outputs_mean : (resolved_names : ℕ → ResolvedView) → AreResolvedNames (applying shapes objects) variables names resolved_names → EachMeans (environment variables names resolved_names) outputs

-- Then over resources at rest there is a plan in each address order, with nothing to do and nothing refused.
abbrev pub NothingIsRefusedAtRest : Type 0
NothingIsRefusedAtRest =
    (ms : List Meaning) (variables : Entries) (names : List NameView) (outputs : expr.Entries) (shapes : ℕ → InstanceKeysView) (objects : ℕ → InstanceKeyView → Tree) (resources : List ResourceView) (places : List ℕ)
    → Ranked (directly_before names) → AreAtRest ms variables names shapes objects resources → AreUnrefused ms variables names outputs shapes objects resources
    → AreInAddressOrder (numbered names resources) places → IsPlanned ms resources variables names outputs shapes (unrefused [])
