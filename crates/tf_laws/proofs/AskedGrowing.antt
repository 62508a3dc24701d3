-- What was planned stays in the request.
use Rattle.std.proofs.Common.{◌≡◌, ◌∙◌, ℕ, Bool, true, false, if◌then◌else◌, List, Option, Some, None, Result, Ok, Err, refl, sym}
use Rattle.std.specs.Prelude.{option_and_then}
use Rattle.tf_plan_data.specs.Action.{ActionView, StepView, create, update, replacement, replaced, destroyed, deposed_destroyed}
use Rattle.tf_config_address.specs.ObjectId.{InstanceKeyView}
use Rattle.tf_plan_object.specs.Instance.{InstanceFaultView, instance_object}
use Rattle.tf_plan_object.specs.Laws.{InstancesGrow}
use Rattle.tf_config_data.specs.Names.{meant_at}
use Rattle.tf_plan_object.specs.Kept.{kept_object}
use Rattle.tf_plan_object.specs.KeptLaws.{UpdatesGrow}
use Rattle.tf_plan_decision.specs.Stage.{all_can_go, decided_object, deciding}
use Rattle.tf_expand_keys.proofs.Refining.{ObjectsRefine, together_grows}
use Rattle.tf_expand_keys.specs.StandingLaws.{Grows, HaveGrown, ResolvedNamesExist, ResolvedNamesGrow}
use Rattle.tf_expand_keys.specs.InstanceKeys.{InstanceKeysView}
use Rattle.tf_expand_keys.specs.Stages.{applying}
use Rattle.tf_expand_keys.specs.Resolved.{ResolvedView, AreResolvedNames, environment, environment_at, together}
use Rattle.tf_plan_data.specs.Plan.{PlanView, plan_names}
use Rattle.tf_provider_protocol.specs.Meaning.{Asked, Meaning}
use Rattle.tf_provider_protocol.specs.Schema.{SchemaView}
use Rattle.tf_value_data.specs.Known.{known}
use Rattle.tf_value_data.specs.Laws.{KnownStays}
use Rattle.tf_value_data.specs.Refinement.{Refines}
use Rattle.tf_value_data.specs.Tree.{Tree, part_at}
use Rattle.tf_laws.proofs.KnownParts.{part_known}
use Rattle.tf_laws.specs.AskingLaws.{IsAnsweredPlan, KnownAttributesStay, RefinesWhere, RequestsRefine}
use Rattle.tf_walk_action.specs.Asked.{asked_by_step, create_of, ignored_by, unless_faulty, update_of}

-- ---- what names stand for

decided_grows : (b : Bool) (shape : InstanceKeysView) (f g : InstanceKeyView → Option Tree) → ObjectsRefine f g → Grows (together (if b then Some shape else None) f) (together (Some shape) g)
decided_grows true shape f g h v w p q = together_grows shape f g h v w p q
decided_grows false shape f g h v w p q = absurd (cc)

plan_grows : ResolvedNamesGrow → (ms : List Meaning) (plan : PlanView) (objects : ℕ → InstanceKeyView → Tree) (resolved_names others : ℕ → ResolvedView)
    → IsAnsweredPlan ms plan objects resolved_names → AreResolvedNames (applying plan.shapes objects) plan.variables (plan_names plan) others
    → HaveGrown plan.variables (plan_names plan) resolved_names others
plan_grows grow ms plan objects resolved_names others is apply =
    let names = plan_names plan in
    grow (deciding ms plan.prior.resources plan.shapes) (applying plan.shapes objects) plan.variables names resolved_names others is.ranked is.planned apply
    (λ n block meant more.
    decided_grows (all_can_go ms plan.prior.resources (plan.shapes n) block) (plan.shapes n)
    (decided_object ms plan.prior.resources n block (environment_at plan.variables names resolved_names n)) (λ key. Some (objects n key))
    (λ key t u a b. let e : objects n key ≡ u = (cc) in rw (← e) (is.answered n block key t meant a)))

-- ---- requests

-- what comes of one result refines to what comes of another where the results do
asks_grow : (f : Tree → Tree) (ask : Tree → Asked) (p q : Result Tree InstanceFaultView) (planned made : Asked) → ((t : Tree) → (ask t).object ≡ Some (f t)) → ((t u : Tree) → Refines t u → Refines (f t) (f u))
    → ((t u : Tree) → p ≡ Ok t → q ≡ Ok u → Refines t u) → unless_faulty ask p ≡ Ok planned → unless_faulty ask q ≡ Ok made → RefinesWhere planned.object made.object
asks_grow f ask (Ok t) (Ok u) planned made object grows h a b =
    let e : ask t ≡ planned = (cc) in
    let g : ask u ≡ made = (cc) in
    rw (← e, ← g, object t, object u) (grows t u (h t u refl refl))
asks_grow f ask (Ok t) (Err why) planned made object grows h a b = absurd (cc)
asks_grow f ask (Err why) q planned made object grows h a b = absurd (cc)

same_asked : (r planned made : Asked) → r.object ≡ None → ◌≡◌ {A = Result Asked InstanceFaultView} (Ok r) (Ok planned) → ◌≡◌ {A = Result Asked InstanceFaultView} (Ok r) (Ok made) → RefinesWhere planned.object made.object
same_asked r planned made none a b =
    let e : r ≡ planned = (cc) in
    let f : r ≡ made = (cc) in
    rw (← e, ← f, none) tt

steps_grow : UpdatesGrow → (ignored : List (List ℕ)) (schema : SchemaView) (a : ActionView) (p q : Result Tree InstanceFaultView) (step : StepView) (planned made : Asked)
    → ((t u : Tree) → p ≡ Ok t → q ≡ Ok u → Refines t u) → asked_by_step ignored schema a p step ≡ Ok planned → asked_by_step ignored schema a q step ≡ Ok made → RefinesWhere planned.object made.object
steps_grow updates ignored schema a p q (create asked) planned made h x y = asks_grow (λ t. t) (create_of a) p q planned made (λ t. refl) (λ t u r. r) h x y
steps_grow updates ignored schema a p q (replacement asked names) planned made h x y = asks_grow (λ t. t) (create_of a) p q planned made (λ t. refl) (λ t u r. r) h x y
steps_grow updates ignored schema a p q (update prior asked names) planned made h x y =
    asks_grow (kept_object schema ignored prior) (λ t. update_of a prior (kept_object schema ignored prior t)) p q planned made (λ t. refl) (updates schema ignored prior) h x y
steps_grow updates ignored schema a p q (replaced prior) planned made h x y = same_asked _ planned made refl x y
steps_grow updates ignored schema a p q (destroyed prior) planned made h x y = same_asked _ planned made refl x y
steps_grow updates ignored schema a p q (deposed_destroyed key prior) planned made h x y = same_asked _ planned made refl x y

pub requests_refine : ResolvedNamesExist → ResolvedNamesGrow → InstancesGrow → UpdatesGrow → RequestsRefine
requests_refine exist grow instances updates ms plan objects resolved_names requests is are block a schema planned made meant x y =
    let names = plan_names plan in
    let apply = exist (applying plan.shapes objects) plan.variables names is.ranked in
    let grown = plan_grows grow ms plan objects resolved_names apply.0 is apply.1 in
    let one = environment plan.variables names resolved_names in
    let other = environment plan.variables names apply.0 in
    let same = are objects a schema apply.0 block apply.1 meant in
    steps_grow updates (ignored_by (meant_at names a.resource)) schema a (instance_object schema block a.key one) (requests objects a schema) a.step planned made
    (λ t u p q. instances schema block a.key one other t u grown.references p (sym same ∙ q)) x y

-- ---- known attributes

known_where : KnownStays → (name : List ℕ) (o x : Option Tree) (v : Tree) → RefinesWhere o x → known v ≡ true → option_and_then (part_at name) o ≡ Some v → option_and_then (part_at name) x ≡ Some v
known_where stays name None x v h is p = absurd (cc)
known_where stays name (Some t) None v h is p = absurd h
known_where stays name (Some t) (Some u) v h is p = part_known stays name t u v h is p

pub known_stay : KnownStays → RequestsRefine → KnownAttributesStay
known_stay stays refine ms plan objects resolved_names requests is are block a schema planned made meant x y name v p k =
    known_where stays name planned.object made.object v (refine ms plan objects resolved_names requests is are block a schema planned made meant x y) k p
