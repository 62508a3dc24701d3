-- Decisions about instances that the configuration has.
use Rattle.std.specs.Prelude.{ℕ, Bool, true, false, ◌&&◌, if◌then◌else◌, List, [], ◌∷◌, find, is_none, is_some, Option, Some, None, option_map, Result, Ok, Err}
use Rattle.std.specs.Option.{option_map_or, option_or}
use Rattle.tf_plan_object.specs.Instance.{InstanceFaultView}
use Rattle.tf_config_data.specs.Config.{LifecycleView}
use Rattle.tf_provider_protocol.specs.Schema.{SchemaView}
use Rattle.tf_state_data.specs.Record.{RecordView}
use Rattle.tf_value_data.specs.Tree.{Tree}
use Rattle.tf_plan_decision.specs.Differing.{differing, forcing}
use Rattle.tf_plan_decision.specs.Ignored.{with_ignored_changes, ignored_fault}
use Rattle.tf_plan_object.specs.Kept.{kept_object}
use Rattle.tf_plan_decision.specs.Prior.{PriorFaultView, first_unfit}

-- A decision: nothing, or a create, an update or a replace with the object that is asked for. An update names the
-- attributes that differ. A replace names those of them whose changes replace the object, or no attribute if the object
-- is tainted.
pub data DecisionView : Type 0 where
  nothing : DecisionView
  create : Tree → DecisionView
  update : Tree → List (List ℕ) → DecisionView
  replace : Tree → List (List ℕ) → DecisionView

-- Why an instance is refused: no provider has its type, a prior object doesn't fit the schema, the planned object has a
-- fault, or an object that may not be destroyed would be replaced or destroyed.
pub data DecisionFaultView : Type 0 where
  no_provider : DecisionFaultView
  unfit : PriorFaultView → DecisionFaultView
  faulty : InstanceFaultView → DecisionFaultView
  prevented : DecisionFaultView

-- an update if no change replaces the object, or else a replace with all arguments as configured
abbrev pub update_or_replace : Tree → Tree → List (List ℕ) → List (List ℕ) → DecisionView
update_or_replace planned kept names [] = update kept names
update_or_replace planned kept names (first ∷ others) = replace planned (first ∷ others)

-- nothing if no attribute differs
abbrev pub by_differing : SchemaView → Tree → Tree → List (List ℕ) → DecisionView
by_differing schema planned kept [] = nothing
by_differing schema planned kept (first ∷ others) = update_or_replace planned kept (first ∷ others) (forcing schema (first ∷ others))

-- The decision if the prior object isn't tainted: each kept attribute first takes its prior value, and then the objects
-- are compared.
abbrev pub beside : SchemaView → List (List ℕ) → Tree → Tree → DecisionView
beside schema ignored prior planned =
    let kept = kept_object schema ignored prior planned in by_differing schema planned kept (differing prior kept)

-- A create if there is no prior object, and a replace if it is tainted.
abbrev pub change : SchemaView → List (List ℕ) → Option RecordView → Tree → DecisionView
change schema ignored None planned = create planned
change schema ignored (Some r) planned = if r.tainted then replace planned [] else beside schema ignored r.attributes planned

-- an object that may not be destroyed can't be replaced
abbrev pub unless_prevented : Bool → DecisionView → Result DecisionView DecisionFaultView
unless_prevented true (replace t names) = Err prevented
unless_prevented prevents d = Ok d

-- the current one of an instance's objects
abbrev pub current : List RecordView → Option RecordView
current records = find (λ r. is_none r.id.deposed) records

-- the decision by what is planned, or the fault of that; `prevent_destroy` is checked last
abbrev pub decided : SchemaView → LifecycleView → Option RecordView → Result Tree InstanceFaultView → Result DecisionView DecisionFaultView
decided schema lifecycle prior (Ok planned) = unless_prevented lifecycle.prevent_destroy (change schema lifecycle.ignore_changes prior planned)
decided schema lifecycle prior (Err why) = Err (faulty why)

abbrev pub unless_unfit : Option PriorFaultView → Result DecisionView DecisionFaultView → Result DecisionView DecisionFaultView
unless_unfit None r = r
unless_unfit (Some fault) r = Err (unfit fault)

-- The decision about an instance with these prior objects, the current one and the deposed ones, by what is planned for
-- it. Or the first thing that refuses it: a prior object that doesn't fit the schema, then a fault of what is planned,
-- including names in `ignore_changes`, and last, with `prevent_destroy`, a replace of the current object.
abbrev pub decision : SchemaView → LifecycleView → List RecordView → Result Tree InstanceFaultView → Result DecisionView DecisionFaultView
decision schema lifecycle records planned =
    unless_unfit (first_unfit schema records) (decided schema lifecycle (current records) (with_ignored_changes (ignored_fault schema lifecycle.ignore_changes) planned))

-- `prevent_destroy` protects the current object of a configured resource. Deposed objects aren't protected.
abbrev pub is_protected : Option LifecycleView → List RecordView → Bool
is_protected lifecycle records = option_map_or (λ l. l.prevent_destroy) lifecycle false && is_some (current records)

-- Why the objects of an instance that the configuration doesn't have can't be destroyed: one of them doesn't fit the
-- schema, or else the current one is protected by the block of its resource, if there is one.
abbrev pub removal_fault : SchemaView → Option LifecycleView → List RecordView → Option DecisionFaultView
removal_fault schema lifecycle records =
    option_or (option_map unfit (first_unfit schema records)) (if is_protected lifecycle records then Some prevented else None)
