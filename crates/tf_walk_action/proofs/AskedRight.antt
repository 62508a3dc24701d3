-- What is asked for an action is what its requests say.
use Rattle.std.proofs.Common.{◌≡◌, ◌∙◌, ℕ, true, List, length, Option, Some, Result, Ok, Err, IfOk, sym, ap, subst}
use Rattle.std.specs.Option.{option_map_or}
use Rattle.std.specs.declared.alloc.AllocError.{AllocError}
use Rattle.tf_config_address.specs.ObjectId.{InstanceKeyView}
use Rattle.tf_plan_object.proofs.Named.{instances_named}
use Rattle.tf_plan_object.specs.Instance.{InstanceFaultView, instance_of}
use Rattle.tf_plan_object.specs.declared.instance.InstanceFault.{InstanceFault}
use Rattle.tf_config_data.specs.Names.{NameView, directly_before}
use Rattle.tf_expand_keys.proofs.Places.{names_stay}
use Rattle.tf_expand_keys.specs.StandingLaws.{ResolvedNamesAreOne, ResolvedNamesExist}
use Rattle.tf_expand_keys.specs.InstanceKeys.{InstanceKeysView}
use Rattle.tf_expand_keys.specs.Stages.{applying}
use Rattle.tf_expand_keys.specs.Resolved.{environment, rule}
use Rattle.tf_graph.proofs.Solving.{solution-exists, solution-unique}
use Rattle.tf_graph.specs.Solutions.{Ranked}
use Rattle.tf_plan_data.specs.Action.{ActionView}
use Rattle.tf_plan_data.specs.Fits.{IsOfBlock}
use Rattle.tf_plan_data.specs.Plan.{PlanView, plan_names}
use Rattle.tf_provider_protocol.specs.Meaning.{Asked, Meaning, schema_in}
use Rattle.tf_provider_protocol.specs.Schema.{SchemaView}
use Rattle.tf_provider_protocol.specs.Verdict.{has_attributes}
use Rattle.tf_walk_action.specs.Requests.{IsRequest}
use Rattle.tf_value_data.specs.Tree.{Tree, tree_of}
use Rattle.tf_value_data.specs.declared.value.Value.{Value}
use Rattle.tf_walk_action.proofs.RequestsExist.{requests_exist}
use Rattle.tf_walk_action.specs.Asked.{asked_for}
use Rattle.tf_walk_action.specs.Outcome.{ActionResultView, skipped, Requests, AreRequests, call_with, comes_of}

-- what is asked by the definition is what any requests say
pub is_requested : (plan : PlanView) (requests : Requests) → Ranked (directly_before (plan_names plan)) → AreRequests plan requests
    → (objects : ℕ → InstanceKeyView → Tree) (a : ActionView) (schema : SchemaView) (request : Result Tree InstanceFaultView) → IsOfBlock (plan_names plan) a
    → IsRequest plan.variables (plan_names plan) plan.shapes objects a.resource a.key schema request → request ≡ requests objects a schema
is_requested plan requests ranked are objects a schema request resource h =
    let names = plan_names plan in
    let resolved_names = solution-exists (length names) (directly_before names) (rule (applying plan.shapes objects) plan.variables names) ranked in
    h resolved_names.0 resource.block resolved_names.1 resource.stands ∙ sym (are objects a schema resolved_names.0 resource.block resolved_names.1 resource.stands)

-- and it has exactly the schema's attributes
pub has_all : (plan : PlanView) → Ranked (directly_before (plan_names plan)) → (objects : ℕ → InstanceKeyView → Tree) (a : ActionView) (schema : SchemaView) (t : Tree) → IsOfBlock (plan_names plan) a
    → IsRequest plan.variables (plan_names plan) plan.shapes objects a.resource a.key schema (Ok t) → has_attributes schema t ≡ true
has_all plan ranked objects a schema t resource h =
    let names = plan_names plan in
    let resolved_names = solution-exists (length names) (directly_before names) (rule (applying plan.shapes objects) plan.variables names) ranked in
    instances_named schema resource.block a.key (environment plan.variables names resolved_names.0) t (sym (h resolved_names.0 resource.block resolved_names.1 resource.stands))

-- what follows of each good result
pub if_ok-weaker : {A E : Type 0} (P Q : A → Type 0) (r : Result A E) → ((x : A) → P x → Q x) → IfOk r P → IfOk r Q
if_ok-weaker P Q (Ok x) f h = f x h
if_ok-weaker P Q (Err e) f h = h

-- what is asked for by the same names and shapes
pub asked_by_plan : (plan : PlanView) (names : List NameView) (shapes : ℕ → InstanceKeysView) (objects : ℕ → InstanceKeyView → Tree) (place : ℕ) (key : InstanceKeyView) (schema : SchemaView) (request : Result Tree InstanceFaultView)
    → names ≡ plan_names plan → shapes ≡ plan.shapes
    → IsRequest plan.variables names shapes objects place key schema request → IsRequest plan.variables (plan_names plan) plan.shapes objects place key schema request
asked_by_plan plan names shapes objects place key schema request same alike h =
    subst (λ (ns : List NameView). IsRequest plan.variables ns plan.shapes objects place key schema request) same
    (subst (λ (ss : ℕ → InstanceKeysView). IsRequest plan.variables names ss objects place key schema request) alike h)

standings_exist : ResolvedNamesExist
standings_exist stage variables names ranked = solution-exists (length names) (directly_before names) (rule stage variables names) ranked

standings_one : ResolvedNamesAreOne
standings_one stage variables names resolved_names others ranked s t n h = solution-unique (length names) (directly_before names) (rule stage variables names) resolved_names others ranked (names_stay names) s t n h

-- there are requests
pub some_requests : (plan : PlanView) → Ranked (directly_before (plan_names plan)) → (requests : Requests) × AreRequests plan requests
some_requests plan ranked = requests_exist standings_exist standings_one plan ranked

-- what is made has all of them
pub has_all-made : (plan : PlanView) → Ranked (directly_before (plan_names plan)) → (objects : ℕ → InstanceKeyView → Tree) (a : ActionView) (schema : SchemaView) (made : Result Value InstanceFault) → IsOfBlock (plan_names plan) a
    → IsRequest plan.variables (plan_names plan) plan.shapes objects a.resource a.key schema (instance_of made) → IfOk made (λ v. has_attributes schema (tree_of v) ≡ true)
has_all-made plan ranked objects a schema (Ok v) block h = has_all plan ranked objects a schema (tree_of v) block h
has_all-made plan ranked objects a schema (Err e) block h = search

-- What is made by the same names and shapes as the plan's.
module _ (plan : PlanView) (ranked : Ranked (directly_before (plan_names plan))) (names : List NameView) (shapes : ℕ → InstanceKeysView) (same : names ≡ plan_names plan) (alike : shapes ≡ plan.shapes)
    (objects : ℕ → InstanceKeyView → Tree) (a : ActionView) (schema : SchemaView) (block : IsOfBlock (plan_names plan) a) (result : Result (Result Value InstanceFault) AllocError)
    (made_by : IfOk result (λ made. IsRequest plan.variables names shapes objects a.resource a.key schema (instance_of made))) where
  -- it is what any requests say
  pub made_as_asked : IfOk result (λ made. (requests : Requests) → AreRequests plan requests → instance_of made ≡ requests objects a schema)
  made_as_asked =
      if_ok-weaker (λ made. IsRequest plan.variables names shapes objects a.resource a.key schema (instance_of made)) (λ made. (requests : Requests) → AreRequests plan requests → instance_of made ≡ requests objects a schema) result
      (λ made h requests are. is_requested plan requests ranked are objects a schema (instance_of made) block (asked_by_plan plan names shapes objects a.resource a.key schema (instance_of made) same alike h)) made_by

  -- and has all that the schema has
  pub made_fully : IfOk result (λ made. IfOk made (λ v. has_attributes schema (tree_of v) ≡ true))
  made_fully =
      if_ok-weaker (λ made. IsRequest plan.variables names shapes objects a.resource a.key schema (instance_of made)) (λ made. IfOk made (λ v. has_attributes schema (tree_of v) ≡ true)) result
      (λ made h. has_all-made plan ranked objects a schema made block (asked_by_plan plan names shapes objects a.resource a.key schema (instance_of made) same alike h)) made_by

-- what comes of asking by the schema of the first provider that has the type is what comes of the action
pub asked-with : (ms : List Meaning) (requests : Requests) (plan : PlanView) (objects : ℕ → InstanceKeyView → Tree) (a : ActionView) (schema : SchemaView) (made : Result Asked InstanceFaultView)
    → schema_in a.addr.type_name ms ≡ Some schema → made ≡ asked_for (plan_names plan) schema a (requests objects a schema) → comes_of ms made ≡ call_with ms requests plan objects a
asked-with ms requests plan objects a schema made there e =
    ap (comes_of ms) e
    ∙ sym (ap (λ (o : Option SchemaView). option_map_or {U = ActionResultView} (λ s. comes_of ms (asked_for (plan_names plan) s a (requests objects a s))) o skipped) there)

-- what follows of a value follows where there is one
pub if_ok-onward : {T E : Type 0} → {P Q : T → Type 0} → (r : Result T E) → IfOk r P → ((x : T) → P x → Q x) → IfOk r Q
if_ok-onward (Ok x) h onward = onward x h
if_ok-onward (Err e) h onward = tt
