-- What holds of decisions, for any prior and planned objects.
use Rattle.std.specs.Prelude.{◌≡◌, ℕ, Bool, true, false, ◌||◌, ◌⊎◌, not, List, [], ◌∷◌, Option, Some, None, Result, Ok}
use Rattle.std.specs.List.{list_all}
use Rattle.std.specs.Option.{option_map_or}
use Rattle.tf_plan_object.specs.Instance.{InstanceFaultView}
use Rattle.tf_config_data.specs.Config.{LifecycleView}
use Rattle.tf_provider_protocol.specs.Schema.{AttributeView, SchemaView, IsSchema}
use Rattle.tf_provider_protocol.specs.Verdict.{has_attributes, is_allowed, is_good_verdict, verdict_on_object, well_formed}
use Rattle.tf_state_data.specs.Record.{RecordView}
use Rattle.tf_value_data.specs.Known.{known}
use Rattle.tf_value_data.specs.Tree.{Tree, IsSorted, part_at}
use Rattle.tf_plan_decision.specs.Decision.{DecisionView, nothing, create, update, replace, change, decision}
use Rattle.tf_plan_decision.specs.Differing.{differing, forces_new, forcing}
use Rattle.tf_plan_object.specs.Kept.{is_kept, kept_object}
use Rattle.tf_plan_decision.specs.Prior.{prior_fault}

-- A create has no prior object, and asks for what is planned.
abbrev pub CreatesAreFirst : Type 0
CreatesAreFirst =
    (schema : SchemaView) (ignored : List (List ℕ)) (prior : Option RecordView) (planned t : Tree)
    → change schema ignored prior planned ≡ create t → (prior ≡ None) × (t ≡ planned)

-- The conditions of an update. The prior object isn't tainted, and the object that is asked for is the planned one with
-- what is kept. The names are those of the attributes in which it differs; there is at least one, and none of them
-- replaces the object.
pub record IsUpdate (schema : SchemaView) (ignored : List (List ℕ)) (r : RecordView) (planned t : Tree) (names : List (List ℕ)) : Type 0 where
  pub untainted : r.tainted ≡ false
  pub object : t ≡ kept_object schema ignored r.attributes planned
  pub differs : names ≡ differing r.attributes t
  pub some : ¬ (names ≡ [])
  pub none_forces : list_all (λ name. not (forces_new schema name)) names ≡ true

-- An update differs from the prior object in some attribute, and in none whose change replaces the object.
abbrev pub UpdatesDiffer : Type 0
UpdatesDiffer =
    (schema : SchemaView) (ignored : List (List ℕ)) (r : RecordView) (planned t : Tree) (names : List (List ℕ))
    → change schema ignored (Some r) planned ≡ update t names → IsUpdate schema ignored r planned t names

-- Changes replace an object that isn't tainted: the names are those of the attributes that differ and replace it, and
-- there is at least one.
pub record IsForced (schema : SchemaView) (ignored : List (List ℕ)) (r : RecordView) (planned : Tree) (names : List (List ℕ)) : Type 0 where
  pub untainted : r.tainted ≡ false
  pub differs : names ≡ forcing schema (differing r.attributes (kept_object schema ignored r.attributes planned))
  pub some : ¬ (names ≡ [])
  pub all_force : list_all (forces_new schema) names ≡ true

-- A replace asks for what is planned, with all arguments as configured. Either the prior object is tainted, or the
-- replace names an attribute that differs and whose change replaces the object.
abbrev pub ReplacesHaveACause : Type 0
ReplacesHaveACause =
    (schema : SchemaView) (ignored : List (List ℕ)) (r : RecordView) (planned t : Tree) (names : List (List ℕ))
    → change schema ignored (Some r) planned ≡ replace t names
    → (t ≡ planned) × (((r.tainted ≡ true) × (names ≡ [])) ⊎ IsForced schema ignored r planned names)

-- With `prevent_destroy` no decision replaces an object.
abbrev pub PreventedStay : Type 0
PreventedStay =
    (schema : SchemaView) (lifecycle : LifecycleView) (records : List RecordView) (planned : Result Tree InstanceFaultView) (t : Tree) (names : List (List ℕ))
    → decision schema lifecycle records planned ≡ Ok (replace t names) → lifecycle.prevent_destroy ≡ false

-- the object that is asked for
abbrev pub asked : DecisionView → Option Tree
asked nothing = None
asked (create t) = Some t
asked (update t names) = Some t
asked (replace t names) = Some t

-- an attribute keeps its prior value, or its planned one is known in every part
abbrev pub is_settled : SchemaView → List (List ℕ) → Tree → AttributeView → Bool
is_settled schema ignored planned a = is_kept schema ignored a.name || option_map_or known (part_at a.name planned) false

-- What was asked for and answered well isn't asked for again: if a reply is good, and all that is planned is known
-- except for what is kept, the same plan decides on nothing for the object in the reply.
abbrev pub GoodRepliesStay : Type 0
GoodRepliesStay =
    (schema : SchemaView) (ignored : List (List ℕ)) (prior : Option RecordView) (r : RecordView) (planned t : Tree)
    → IsSchema schema → has_attributes schema planned ≡ true
    → asked (change schema ignored prior planned) ≡ Some t
    → is_good_verdict (verdict_on_object schema (Some t) r.attributes) ≡ true
    → list_all (is_settled schema ignored planned) schema.attributes ≡ true
    → r.tainted ≡ false
    → change schema ignored (Some r) planned ≡ nothing

-- an object has an attribute, with a value that is allowed
abbrev pub allowed_in : Tree → AttributeView → Bool
allowed_in t a = option_map_or (is_allowed a) (part_at a.name t) false

-- A prior object that fits its schema was written with the schema's version, and has exactly its attributes, each with
-- an allowed value. The keys of each `Value` are in byte order.
abbrev pub FitsExactly : Type 0
FitsExactly =
    (schema : SchemaView) (version : ℕ) (t : Tree) → IsSchema schema → IsSorted t → prior_fault schema version t ≡ None
    → (version ≡ schema.version) × (has_attributes schema t ≡ true) × (list_all (allowed_in t) schema.attributes ≡ true)

-- What fits a schema by its attributes, as each good reply does, fits it as a prior object of the schema's version.
abbrev pub GoodRepliesFit : Type 0
GoodRepliesFit = (schema : SchemaView) (t : Tree) → well_formed schema t ≡ true → prior_fault schema schema.version t ≡ None

-- A record of the object in a good reply to a request for an object.
pub record IsAnswer (schema : SchemaView) (wanted : Tree) (r : RecordView) : Type 0 where
  pub current : r.id.deposed ≡ None
  pub untainted : r.tainted ≡ false
  pub version : r.schema_version ≡ schema.version
  pub good : is_good_verdict (verdict_on_object schema (Some wanted) r.attributes) ≡ true

-- So what was decided, asked for and answered well is followed by nothing: if the record of the answer is the only one,
-- the same plan decides on nothing.
abbrev pub AnswersStay : Type 0
AnswersStay =
    (schema : SchemaView) (lifecycle : LifecycleView) (records : List RecordView) (r : RecordView) (planned t : Tree) (d : DecisionView)
    → IsSchema schema → has_attributes schema planned ≡ true
    → decision schema lifecycle records (Ok planned) ≡ Ok d → asked d ≡ Some t → IsAnswer schema t r
    → list_all (is_settled schema lifecycle.ignore_changes planned) schema.attributes ≡ true
    → decision schema lifecycle (r ∷ []) (Ok planned) ≡ Ok nothing

-- Nothing is done only if the prior object isn't tainted and equals the planned one with what is kept.
abbrev pub NothingIsDoneBesideEqual : Type 0
NothingIsDoneBesideEqual =
    (schema : SchemaView) (ignored : List (List ℕ)) (r : RecordView) (planned : Tree)
    → IsSchema schema → has_attributes schema planned ≡ true → has_attributes schema r.attributes ≡ true
    → change schema ignored (Some r) planned ≡ nothing → (r.tainted ≡ false) × (kept_object schema ignored r.attributes planned ≡ r.attributes)

-- And for such a prior object nothing is done, if it is known, as each object of a state is.
abbrev pub BesideEqualNothingIsDone : Type 0
BesideEqualNothingIsDone =
    (schema : SchemaView) (ignored : List (List ℕ)) (r : RecordView) (planned : Tree)
    → IsSchema schema → has_attributes schema r.attributes ≡ true → known r.attributes ≡ true → r.tainted ≡ false
    → kept_object schema ignored r.attributes planned ≡ r.attributes → change schema ignored (Some r) planned ≡ nothing

-- So nothing is done if the planned object is the prior one.
abbrev pub BesidePlannedNothingIsDone : Type 0
BesidePlannedNothingIsDone =
    (schema : SchemaView) (ignored : List (List ℕ)) (r : RecordView) (planned : Tree)
    → IsSchema schema → has_attributes schema planned ≡ true → known r.attributes ≡ true → r.tainted ≡ false
    → planned ≡ r.attributes → change schema ignored (Some r) planned ≡ nothing
