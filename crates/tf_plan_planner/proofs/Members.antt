-- The actions of the members of a resource: each is of it, and is served; one that makes or changes an object is of an
-- instance that the block has; and no two are about the same.
use Rattle.std.proofs.Common.{◌≡◌, ◌+◌, ◌++◌, ◌||◌, Bool, true, false, cond, ℕ, List, [], ◌∷◌, Option, Some, None, is_some, Result, Ok, Err, map, refl, sym, ap, subst}
use Rattle.std.proofs.lemmas.Bool.{both_ways}
use Rattle.std.specs.List.{AllByRecursion}
use Rattle.tf_plan_data.specs.Action.{ActionView, StepView}
use Rattle.tf_config_address.specs.ResourceAddr.{ResourceAddrView}
use Rattle.tf_config_address.specs.ObjectId.{InstanceKeyView}
use Rattle.tf_config_address.specs.Same.{same_instance_key}
use Rattle.tf_plan_object.specs.Instance.{instance_object}
use Rattle.tf_config_data.specs.Config.{BlockView}
use Rattle.tf_config_data.specs.Names.{NameView, a_block, meant_at}
use Rattle.tf_plan_decision.specs.Deciding.{action, of_at}
use Rattle.tf_plan_decision.specs.Outcome.{by_decision, by_removal, declared_outcome, member_outcome, orphan_outcome, removal_outcome}
use Rattle.tf_plan_decision.specs.Steps.{decided_steps, removal_steps}
use Rattle.tf_plan_decision.specs.Decision.{DecisionView, DecisionFaultView, decision, removal_fault}
use Rattle.tf_expr_eval.specs.Environment.{Environment}
use Rattle.tf_plan_order.specs.Members.{InstanceToPlanView, is_among, member, members, all_keys}
use Rattle.tf_plan_planner.proofs.Distinct.{AreDistinct}
use Rattle.tf_plan_planner.proofs.Listing.{member_actions, outcome_actions}
use Rattle.tf_plan_planner.proofs.Objects.{one_key}
use Rattle.tf_plan_planner.proofs.Steps.{decided-distinct, deposed_of, removal-destroys, removal-distinct}
use Rattle.tf_plan_planner.proofs.About.{outcome_signs}
use Rattle.tf_plan_data.specs.Fits.{IsDeclared, IsNumbered, is_apply}
use Rattle.tf_plan_data.specs.Served.{IsServedBy}
use Rattle.tf_provider_protocol.specs.Meaning.{Meaning, schema_in}
use Rattle.tf_provider_protocol.specs.Schema.{SchemaView}
use Rattle.tf_state_data.specs.Record.{RecordView}

-- ---- no two are about the same

by_decision-distinct : (records : List RecordView) (d : Result DecisionView DecisionFaultView) → AreDistinct (deposed_of records) → AreDistinct (outcome_signs (by_decision records d))
by_decision-distinct records (Ok d) distinct = decided-distinct records d distinct
by_decision-distinct records (Err why) distinct = tt

by_removal-distinct : (records : List RecordView) (o : Option DecisionFaultView) → AreDistinct (deposed_of records) → AreDistinct (outcome_signs (by_removal records o))
by_removal-distinct records None distinct = removal-distinct records distinct
by_removal-distinct records (Some why) distinct = tt

pub member-distinct : (schema : Option SchemaView) (block : BlockView) (env : Environment) (m : InstanceToPlanView) → AreDistinct (deposed_of m.records) → AreDistinct (outcome_signs (member_outcome schema block env m))
member-distinct None block env m distinct = tt
member-distinct (Some schema) block env m distinct = by_test m.is_declared
  where
    by_test : (b : Bool) → AreDistinct (outcome_signs (cond b (declared_outcome schema block env m) (removal_outcome schema (Some block.lifecycle) m)))
    by_test true = by_decision-distinct m.records (decision schema block.lifecycle m.records (instance_object schema block m.key env)) distinct
    by_test false = by_removal-distinct m.records (removal_fault schema (Some block.lifecycle) m.records) distinct

pub orphan-distinct : (schema : Option SchemaView) (m : InstanceToPlanView) → AreDistinct (deposed_of m.records) → AreDistinct (outcome_signs (orphan_outcome schema m))
orphan-distinct None m distinct = tt
orphan-distinct (Some schema) m distinct = by_removal-distinct m.records (removal_fault schema None m.records) distinct

-- ---- each is of its resource

-- an action is of the resource with a number and an address
pub record IsOfResource (ms : List Meaning) (names : List NameView) (n : ℕ) (addr : ResourceAddrView) (a : ActionView) : Type 0 where
  pub resource : a.resource ≡ n
  pub own : a.addr ≡ addr
  pub declared : IsDeclared names a
  pub served : IsServedBy ms a

pub all-append : {A : Type 0} (P : A → Type 0) (xs ys : List A) → AllByRecursion P xs → AllByRecursion P ys → AllByRecursion P (xs ++ ys)
all-append P [] ys h k = k
all-append P (x ∷ xs) ys h k = (h.0, all-append P xs ys h.1 k)

module _ (ms : List Meaning) (names : List NameView) (n : ℕ) where
  destroys-fit : (addr : ResourceAddrView) (i : ℕ) (key : InstanceKeyView) (steps : List StepView) → is_some (schema_in addr.type_name ms) ≡ true → AllByRecursion (λ s. is_apply s ≡ false) steps
      → AllByRecursion (IsOfResource ms names n addr) (map (action (of_at ms n addr) i key) steps)
  destroys-fit addr i key [] served all = tt
  destroys-fit addr i key (s ∷ steps) served all = (
    record { resource = refl; own = refl; declared = λ h. absurd (both_ways (is_apply s) all.0 h); served = served },
    destroys-fit addr i key steps served all.1,
  )

  removal-fits : (addr : ResourceAddrView) (i : ℕ) (key : InstanceKeyView) (records : List RecordView) (o : Option DecisionFaultView) → is_some (schema_in addr.type_name ms) ≡ true
      → AllByRecursion (IsOfResource ms names n addr) (outcome_actions (of_at ms n addr) i key (by_removal records o))
  removal-fits addr i key records None served = destroys-fit addr i key (removal_steps records) served (removal-destroys records)
  removal-fits addr i key records (Some why) served = tt

  orphan-fits : (addr : ResourceAddrView) (schema : Option SchemaView) (i : ℕ) (m : InstanceToPlanView) → schema ≡ schema_in addr.type_name ms
      → AllByRecursion (IsOfResource ms names n addr) (outcome_actions (of_at ms n addr) i m.key (orphan_outcome schema m))
  orphan-fits addr None i m is = tt
  orphan-fits addr (Some schema) i m is = removal-fits addr i m.key m.records (removal_fault schema None m.records) (ap is_some (sym is))

  pub orphans-fit : (addr : ResourceAddrView) (i : ℕ) (all : List InstanceToPlanView) → AllByRecursion (IsOfResource ms names n addr) (member_actions (of_at ms n addr) (orphan_outcome (schema_in addr.type_name ms)) i all)
  orphans-fit addr i [] = tt
  orphans-fit addr i (m ∷ all) =
      let schema = schema_in addr.type_name ms in
      all-append (IsOfResource ms names n addr) (outcome_actions (of_at ms n addr) i m.key (orphan_outcome schema m)) (member_actions (of_at ms n addr) (orphan_outcome schema) (i + 1) all)
      (orphan-fits addr schema i m refl) (orphans-fit addr (i + 1) all)

  module _ (block : BlockView) (stands : meant_at names n ≡ Some (a_block block)) where
    steps-fit : (i : ℕ) (key : InstanceKeyView) (steps : List StepView) → is_some (schema_in block.addr.type_name ms) ≡ true → IsNumbered key
        → AllByRecursion (IsOfResource ms names n block.addr) (map (action (of_at ms n block.addr) i key) steps)
    steps-fit i key [] served numbered = tt
    steps-fit i key (s ∷ steps) served numbered = (
      record { resource = refl; own = refl; declared = λ h. record { block = block; stands = stands; own = refl; numbered = numbered }; served = served },
      steps-fit i key steps served numbered,
    )

    decision-fits : (i : ℕ) (key : InstanceKeyView) (records : List RecordView) (d : Result DecisionView DecisionFaultView) → is_some (schema_in block.addr.type_name ms) ≡ true → IsNumbered key
        → AllByRecursion (IsOfResource ms names n block.addr) (outcome_actions (of_at ms n block.addr) i key (by_decision records d))
    decision-fits i key records (Ok d) served numbered = steps-fit i key (decided_steps records d) served numbered
    decision-fits i key records (Err why) served numbered = tt

    member-fits : (env : Environment) (schema : Option SchemaView) (i : ℕ) (m : InstanceToPlanView) → schema ≡ schema_in block.addr.type_name ms → (m.is_declared ≡ true → IsNumbered m.key)
        → AllByRecursion (IsOfResource ms names n block.addr) (outcome_actions (of_at ms n block.addr) i m.key (member_outcome schema block env m))
    member-fits env None i m is numbered = tt
    member-fits env (Some schema) i m is numbered = by_test m.is_declared numbered
      where
        by_test : (b : Bool) → (b ≡ true → IsNumbered m.key)
            → AllByRecursion (IsOfResource ms names n block.addr)
            (outcome_actions (of_at ms n block.addr) i m.key (cond b (declared_outcome schema block env m) (removal_outcome schema (Some block.lifecycle) m)))
        by_test true below =
            decision-fits i m.key m.records (decision schema block.lifecycle m.records (instance_object schema block m.key env)) (ap is_some (sym is)) (below refl)
        by_test false below = removal-fits block.addr i m.key m.records (removal_fault schema (Some block.lifecycle) m.records) (ap is_some (sym is))

    pub members-fit : (env : Environment) (i : ℕ) (all : List InstanceToPlanView) → AllByRecursion (λ m. m.is_declared ≡ true → IsNumbered m.key) all
        → AllByRecursion (IsOfResource ms names n block.addr) (member_actions (of_at ms n block.addr) (member_outcome (schema_in block.addr.type_name ms) block env) i all)
    members-fit env i [] numbered = tt
    members-fit env i (m ∷ all) numbered =
        let schema = schema_in block.addr.type_name ms in
        all-append (IsOfResource ms names n block.addr) (outcome_actions (of_at ms n block.addr) i m.key (member_outcome schema block env m))
        (member_actions (of_at ms n block.addr) (member_outcome schema block env) (i + 1) all) (member-fits env schema i m refl numbered.0) (members-fit env (i + 1) all numbered.1)

-- ---- the numbers of instances that a block has

among-numbered : (keys : List InstanceKeyView) (key : InstanceKeyView) → AllByRecursion IsNumbered keys → is_among keys key ≡ true → IsNumbered key
among-numbered [] key all h = absurd (cc)
among-numbered (k ∷ keys) key all h = by_test (same_instance_key k key) refl h (among-numbered keys key all.1)
  where
    by_test : (b : Bool) → same_instance_key k key ≡ b → (b || is_among keys key) ≡ true → (is_among keys key ≡ true → IsNumbered key) → IsNumbered key
    by_test true is g again = subst IsNumbered (one_key k key is) all.0
    by_test false is g again = again g

numbered-members : (keys : List InstanceKeyView) (records : List RecordView) (ks : List InstanceKeyView) → AllByRecursion IsNumbered keys
    → AllByRecursion (λ m. m.is_declared ≡ true → IsNumbered m.key) (map (member keys records) ks)
numbered-members keys records [] all = tt
numbered-members keys records (k ∷ ks) all = (among-numbered keys k all, numbered-members keys records ks all)

pub members-numbered : (keys : List InstanceKeyView) (records : List RecordView) → AllByRecursion IsNumbered keys → AllByRecursion (λ m. m.is_declared ≡ true → IsNumbered m.key) (members keys records)
members-numbered keys records all = numbered-members keys records (all_keys keys records) all
