-- The instances of each resource stay from the expansion on.
use Rattle.std.proofs.Common.{◌≡◌, ◌∙◌, ◌<◌, ◌++◌, ℕ, Bool, true, false, if◌then◌else◌, List, [], ◌∷◌, Option, Some, None, is_some, Result, Ok, Err, Contains, length, map as each, refl, sym, ap, subst}
use Rattle.std.specs.List.{AllByRecursion}
use Rattle.tf_plan_data.specs.Action.{ActionView}
use Rattle.tf_config_address.specs.ObjectId as keys
use Rattle.tf_config_address.specs.ObjectId.{InstanceKeyView}
use Rattle.tf_plan_object.specs.Instance.{instance_object, object_in}
use Rattle.tf_config_data.specs.Config.{BlockView, RepetitionView, for_each}
use Rattle.tf_config_data.specs.Names.{Meant, a_block, block_refers, directly_before, addr_pair, meant_at, named_in_repetition, places, refers_at}
use Rattle.tf_laws.proofs.Grown.{was_made}
use Rattle.tf_laws.proofs.Members.{among_holds}
use Rattle.tf_laws.proofs.Places.{meant_within}
use Rattle.tf_laws.proofs.Still.{all_there}
use Rattle.tf_plan_decision.specs.Stage.{all_can_go, decided_object, deciding}
use Rattle.tf_expand_keys.proofs.Locals.{instances_local}
use Rattle.tf_expand_keys.proofs.Places.{all_places, names_stay}
use Rattle.tf_expand_keys.proofs.Refining.{same_keys, together_grows}
use Rattle.tf_expand_keys.proofs.Seen.{agree_on, same_seen}
use Rattle.tf_expand_keys.specs.Instance.{instance_environment}
use Rattle.tf_expand_keys.specs.StandingLaws.{Grows, HaveGrown, InstancesStay, ResolvedNamesAreOne, ResolvedNamesGrow}
use Rattle.tf_expand_keys.specs.Repetition.{instances, keyed, or_bad_for_each}
use Rattle.tf_expand_keys.specs.InstanceKeys.{InstanceKeysView, instance_keys, named}
use Rattle.tf_expand_keys.specs.Stages.{applying, expansion, fine}
use Rattle.tf_expand_keys.specs.Resolved.{ResolvedView, AreResolvedNames, all_stand, environment, environment_at, result_in, together}
use Rattle.tf_expand_keys.specs.declared.repetition.RepetitionFault.{RepetitionFault}
use Rattle.tf_expr_eval.proofs.Locality.{both_halves, expressions_local}
use Rattle.tf_expr_eval.specs.Constants.{ConstantView}
use Rattle.tf_expr_eval.specs.Environment.{Environment}
use Rattle.tf_expr_eval.specs.ExprMeaning.{meaning}
use Rattle.tf_expr_eval.specs.Growth.{ExprKnowledgeGrows}
use Rattle.tf_expr_eval.specs.Locality.{AgreeOn}
use Rattle.tf_expr_eval.specs.Meaning.{and_then}
use Rattle.tf_expand_keys.specs.Expanding.{shape_in}
use Rattle.tf_expand_keys.specs.ExpansionLaws.{AllStandWhereNoneIsRefused}
use Rattle.tf_graph.proofs.Edges.{all_by_contained}
use Rattle.tf_graph.proofs.Solving.{all_by_at}
use Rattle.tf_graph.specs.Solutions.{seen_by}
use Rattle.tf_plan_order.specs.Members.{is_among}
use Rattle.tf_expr_operators.specs.Answer.{Answer}
use Rattle.tf_expr_syntax.specs.declared.fault.EvalFault.{EvalFault}
use Rattle.tf_walk_action.specs.Asked.{AreRequests, Requests, asked_for, ignored_by}
use Rattle.tf_plan_data.specs.Fits.{is_apply}
use Rattle.tf_plan_data.specs.Plan.{plan_names}
use Rattle.tf_provider_protocol.specs.Meaning.{Asked}
use Rattle.tf_provider_protocol.specs.Schema.{SchemaView}
use Rattle.tf_expr_syntax.specs.ExprNames.{named_below}
use Rattle.tf_expr_syntax.specs.ExprTree as expr
use Rattle.tf_value_data.specs.Refinement.{Refines}
use Rattle.tf_value_data.specs.Tree.{Tree, map, set, unknown, keys_of}
use Rattle.tf_laws.proofs.Instance.{IsOfInstance, of_instance}
use Rattle.tf_laws.proofs.PlannedParts.{Made, made}
use Rattle.tf_laws.specs.Instances.{HasPlannedKeys, HavePlannedInstances, InstancesAreExpanded, InstancesStayInApplies, InstancesStayInPlans, KeysStayInPlans, KeysStayInRequests}

-- ---- keys

-- keys stay where a value has them
keys_kept : (t u : Tree) (shape : InstanceKeysView) → Refines t u → keyed (Ok t) ≡ Ok shape → keyed (Ok u) ≡ Ok shape
keys_kept (set ss) (set ts) shape h p = ap (λ (ks : List (List ℕ)). keyed (Ok (set ks))) (sym h) ∙ p
keys_kept (map es) (map fs) shape h p = ap (λ (ks : List (List ℕ)). or_bad_for_each (Some ks)) (sym (same_keys es fs h)) ∙ p
keys_kept (set ss) _ shape h p = absurd (assumption)
keys_kept (map es) _ shape h p = absurd (assumption)
keys_kept _ u shape h p = absurd (cc)

keys_grow : (a b : Answer) (u : Tree) (shape : InstanceKeysView) → ((v w : Tree) → a ≡ Ok v → b ≡ Ok w → Refines v w) → b ≡ Ok u → keyed a ≡ Ok shape → keyed b ≡ Ok shape
keys_grow (Ok t) (Ok w) u shape grows e p = keys_kept t w shape (grows t w refl refl) p
keys_grow (Ok t) (Err why) u shape grows e p = absurd (cc)
keys_grow (Err why) b u shape grows e p = absurd (cc)

-- `for_each` comes to instances that have names
keyed_named : (a : Answer) (shape : InstanceKeysView) → keyed a ≡ Ok shape → (names : List (List ℕ)) × (shape ≡ named names)
keyed_named (Ok (map es)) shape e = (keys_of es, (cc))
keyed_named (Ok (set ts)) shape e = (ts, (cc))
keyed_named (Ok _) shape e = absurd (cc)
keyed_named (Err why) shape e = absurd (cc)

all_named : (names : List (List ℕ)) → AllByRecursion (λ k. (s : List ℕ) × (k ≡ keys.name s)) (each keys.name names)
all_named [] = tt
all_named (s ∷ names) = ((s, refl), all_named names)

evaluated : (schema : SchemaView) (arguments : expr.Entries) (a : Answer) (constants : Tree → Result (List ConstantView) EvalFault) (bound : List ConstantView → Result Environment EvalFault) (u : Tree)
    → object_in schema arguments (and_then (and_then a constants) bound) ≡ Ok u → (t : Tree) × (a ≡ Ok t)
evaluated schema arguments (Ok t) constants bound u h = (t, refl)
evaluated schema arguments (Err why) constants bound u h = absurd (cc)

-- an instance's object has `for_each` evaluated
for_each_evaluated : (schema : SchemaView) (block : BlockView) (e : expr.Tree) (key : List ℕ) (env : Environment) (u : Tree) → block.repetition ≡ for_each e
    → instance_object schema block (keys.name key) env ≡ Ok u → (t : Tree) × (meaning env e ≡ Ok t)
for_each_evaluated schema block e key env u is h =
    let object : object_in schema block.arguments (instance_environment block.repetition (keys.name key) env) ≡ Ok u = h in
    let each : object_in schema block.arguments (instance_environment (for_each e) (keys.name key) env) ≡ Ok u = (rw is at object) in
    evaluated schema block.arguments (meaning env e) _ _ u each

-- ---- the expansion

fine_is : (r : Result InstanceKeysView RepetitionFault) (s shape : InstanceKeysView) → r ≡ Ok s → fine r ≡ Some shape → s ≡ shape
fine_is (Ok t) s shape e f = cc
fine_is (Err why) s shape e f = absurd (cc)

-- where nothing is known of the objects, they refine to any others of the same instances
unknowns_grow : (worked : Option InstanceKeysView) (b : Bool) (shape : InstanceKeysView) (f : InstanceKeyView → Option Tree) → ((s : InstanceKeysView) → worked ≡ Some s → shape ≡ s)
    → Grows (together worked (λ key. Some unknown)) (together (if b then Some shape else None) f)
unknowns_grow None b shape f h v w p q = absurd (cc)
unknowns_grow (Some s) false shape f h v w p q = absurd (cc)
unknowns_grow (Some s) true shape f h v w p q =
    together_grows s (λ key. Some unknown) f (λ key t u a b. let e : unknown ≡ t = (cc) in rw (← e) tt) v w p (rw (sym (h s refl)) q)

expanded_is : (b : Bool) (worked : Result InstanceKeysView RepetitionFault) (other shape : InstanceKeysView) → b ≡ true → ◌≡◌ {A = Result InstanceKeysView RepetitionFault} (if b then worked else Ok other) (Ok shape) → worked ≡ Ok shape
expanded_is true worked other shape h e = e
expanded_is false worked other shape h e = absurd (cc)

module _ (x : Made) where
  -- resolved names that are the same give the same instances
  instances_same : (resolved_names others : ℕ → ResolvedView) → ((n : ℕ) → n < length (plan_names x.plan) → resolved_names n ≡ others n) → (repetition : RepetitionView)
      → instances repetition (environment x.plan.variables (plan_names x.plan) resolved_names) ≡ instances repetition (environment x.plan.variables (plan_names x.plan) others)
  instances_same resolved_names others same repetition =
      instances_local expressions_local repetition (environment x.plan.variables (plan_names x.plan) resolved_names) (environment x.plan.variables (plan_names x.plan) others)
      (agree_on x.plan.variables (plan_names x.plan) resolved_names others (named_in_repetition repetition) (all_places (λ n. resolved_names n ≡ others n) (plan_names x.plan) (named_in_repetition repetition) same))

  -- and so does what a name sees of them
  instances_seen : (resolved_names : ℕ → ResolvedView) (n : ℕ) (block : BlockView) → meant_at (plan_names x.plan) n ≡ Some (a_block block)
      → instances block.repetition (environment x.plan.variables (plan_names x.plan) resolved_names) ≡ instances block.repetition (environment_at x.plan.variables (plan_names x.plan) resolved_names n)
  instances_seen resolved_names n block meant =
      let whole = environment x.plan.variables (plan_names x.plan) resolved_names in
      let seen = environment_at x.plan.variables (plan_names x.plan) resolved_names n in
      let agree : AgreeOn (environment x.plan.variables (plan_names x.plan) resolved_names) (environment_at x.plan.variables (plan_names x.plan) resolved_names n) (block_refers block) =
      agree_on x.plan.variables (plan_names x.plan) resolved_names (result_in (seen_by resolved_names (directly_before (plan_names x.plan) n))) (block_refers block)
      (subst (λ (m : Option Meant). AllByRecursion (λ b. resolved_names b ≡ result_in (seen_by resolved_names (directly_before (plan_names x.plan) n)) b) (places (plan_names x.plan) (refers_at m))) meant
      (same_seen resolved_names (directly_before (plan_names x.plan) n))) in
      let outer = both_halves (λ pair. whole pair.0 pair.1 ≡ seen pair.0 pair.1) (named_in_repetition block.repetition ++ named_below block.arguments) (each addr_pair block.depends_on) agree in
      let inner = both_halves (λ pair. whole pair.0 pair.1 ≡ seen pair.0 pair.1) (named_in_repetition block.repetition) (named_below block.arguments) outer.0 in
      instances_local expressions_local block.repetition whole seen inner.0

  module _ (all_stands : AllStandWhereNoneIsRefused) where
    -- a resource has the instances of the expansion
    own_instances : (n : ℕ) (block : BlockView) → meant_at (plan_names x.plan) n ≡ Some (a_block block)
        → instances block.repetition (environment x.plan.variables (plan_names x.plan) x.expanded) ≡ Ok (x.plan.shapes n)
    own_instances n block meant =
        let names = plan_names x.plan in
        let inside = meant_within (plan_names x.plan) n (a_block block) meant in
        let stands : AllByRecursion (λ a. is_some (x.expanded a) ≡ true) (directly_before (plan_names x.plan) n) =
        all_by_contained (λ a. is_some (x.expanded a) ≡ true) (directly_before (plan_names x.plan) n)
        (λ a c. all_stands x.plan.variables (plan_names x.plan) x.expanded x.plan.shapes x.ranked x.expands x.are_expanded.each a (all_by_at (λ d. d < length (plan_names x.plan)) (directly_before (plan_names x.plan) n) a (names_stay (plan_names x.plan) n inside) c)) in
        let worked = expanded_is (all_stand (seen_by x.expanded (directly_before names n))) (shape_in (meant_at names n) (environment x.plan.variables names x.expanded)) _ (x.plan.shapes n) (all_there x.expanded (directly_before names n) stands) (x.are_expanded.each n inside) in
        sym (ap (λ (m : Option Meant). shape_in m (environment x.plan.variables (plan_names x.plan) x.expanded)) meant) ∙ worked

    -- what names stand for in the expansion refines to what they stand for in the plan
    plan_grown : ResolvedNamesGrow → (resolved_names : ℕ → ResolvedView) → AreResolvedNames (deciding x.ms x.plan.prior.resources x.plan.shapes) x.plan.variables (plan_names x.plan) resolved_names
        → HaveGrown x.plan.variables (plan_names x.plan) x.expanded resolved_names
    plan_grown grow resolved_names solves =
        let names = plan_names x.plan in
        grow expansion (deciding x.ms x.plan.prior.resources x.plan.shapes) x.plan.variables names x.expanded resolved_names x.ranked x.expands solves
        (λ n block meant more.
        unknowns_grow (fine (instances block.repetition (environment_at x.plan.variables names x.expanded n))) (all_can_go x.ms x.plan.prior.resources (x.plan.shapes n) block) (x.plan.shapes n)
        (decided_object x.ms x.plan.prior.resources n block (environment_at x.plan.variables names resolved_names n))
        (λ s worked. fine_is (instances block.repetition (environment_at x.plan.variables names x.expanded n)) (x.plan.shapes n) s (sym (instances_seen x.expanded n block meant) ∙ own_instances n block meant) worked))

    -- and to what they stand for in an apply
    apply_grown : ResolvedNamesGrow → (objects : ℕ → InstanceKeyView → Tree) (resolved_names : ℕ → ResolvedView) → AreResolvedNames (applying x.plan.shapes objects) x.plan.variables (plan_names x.plan) resolved_names
        → HaveGrown x.plan.variables (plan_names x.plan) x.expanded resolved_names
    apply_grown grow objects resolved_names solves =
        let names = plan_names x.plan in
        grow expansion (applying x.plan.shapes objects) x.plan.variables names x.expanded resolved_names x.ranked x.expands solves
        (λ n block meant more.
        unknowns_grow (fine (instances block.repetition (environment_at x.plan.variables names x.expanded n))) true (x.plan.shapes n) (λ key. Some (objects n key))
        (λ s worked. fine_is (instances block.repetition (environment_at x.plan.variables names x.expanded n)) (x.plan.shapes n) s (sym (instances_seen x.expanded n block meant) ∙ own_instances n block meant) worked))

    -- so instances stay
    stay : InstancesStay → (resolved_names : ℕ → ResolvedView) → HaveGrown x.plan.variables (plan_names x.plan) x.expanded resolved_names → HavePlannedInstances x.plan resolved_names
    stay instances_stay resolved_names grown n block shape meant e =
        sym
        (instances_stay block.repetition (environment x.plan.variables (plan_names x.plan) x.expanded) (environment x.plan.variables (plan_names x.plan) resolved_names) (x.plan.shapes n) shape grown.references
        (own_instances n block meant) e)

    -- and the keys of an instance that has an object
    keys_of_made : ExprKnowledgeGrows → (resolved_names : ℕ → ResolvedView) → HaveGrown x.plan.variables (plan_names x.plan) x.expanded resolved_names
        → (a : ActionView) (i : IsOfInstance x a) (schema : SchemaView) (u : Tree) → instance_object schema i.block a.key (environment x.plan.variables (plan_names x.plan) resolved_names) ≡ Ok u
        → HasPlannedKeys x.plan resolved_names a.resource
    keys_of_made law resolved_names grown a i schema u makes block e meant is =
        let names = plan_names x.plan in
        let one = environment x.plan.variables (plan_names x.plan) x.expanded in
        let other = environment x.plan.variables (plan_names x.plan) resolved_names in
        let both : Some (a_block i.block) ≡ Some (a_block block) = sym i.meant ∙ meant in
        let same : i.block ≡ block = (cc) in
        let own : keyed (meaning one e) ≡ Ok (x.plan.shapes a.resource) = sym (ap (λ (r : RepetitionView). instances r one) is) ∙ own_instances a.resource block meant in
        let shape = keyed_named (meaning one e) (x.plan.shapes a.resource) own in
        let key = among_holds (λ k. (s : List ℕ) × (k ≡ keys.name s)) (instance_keys (named shape.0)) a.key (all_named shape.0) (subst (λ (s : InstanceKeysView). is_among (instance_keys s) a.key ≡ true) shape.1 i.among) in
        let object : instance_object schema block (keys.name key.0) other ≡ Ok u = ap (λ (k : InstanceKeyView). instance_object schema block k other) (sym key.1) ∙ ap (λ (b : BlockView). instance_object schema b a.key other) (sym same) ∙ makes in
        let valued = for_each_evaluated schema block e key.0 other u is object in
        keys_grow (meaning one e) (meaning other e) valued.0 (x.plan.shapes a.resource) (law one other grown.references e) valued.1 own

-- ---- the laws

pub record Laws : Type 0 where
  pub one : ResolvedNamesAreOne
  pub grow : ResolvedNamesGrow
  pub instances : InstancesStay
  pub meaning : ExprKnowledgeGrows
  pub stands : AllStandWhereNoneIsRefused

pub instances_expanded : Laws → InstancesAreExpanded
unfolding made
instances_expanded laws ms config variables prior plan resolved_names is solves n block meant =
    let x = made ms config variables prior plan is in
    instances_same x resolved_names x.expanded (λ m h. laws.one expansion x.plan.variables (plan_names x.plan) resolved_names x.expanded x.ranked solves x.expands m h) block.repetition
    ∙ own_instances x laws.stands n block meant

pub plans_keep_instances : Laws → InstancesStayInPlans
unfolding made
plans_keep_instances laws ms config variables prior plan resolved_names is solves n block shape meant e =
    let x = made ms config variables prior plan is in
    stay x laws.stands laws.instances resolved_names (plan_grown x laws.stands laws.grow resolved_names solves) n block shape meant e

pub applies_keep_instances : Laws → InstancesStayInApplies
unfolding made
applies_keep_instances laws ms config variables prior plan objects resolved_names is solves n block shape meant e =
    let x = made ms config variables prior plan is in
    stay x laws.stands laws.instances resolved_names (apply_grown x laws.stands laws.grow objects resolved_names solves) n block shape meant e

module _ (x : Made) (laws : Laws) where
  plan_keys : (resolved_names : ℕ → ResolvedView) → AreResolvedNames (deciding x.ms x.plan.prior.resources x.plan.shapes) x.plan.variables (plan_names x.plan) resolved_names → (a : ActionView) → Contains x.plan.actions a → is_apply a.step ≡ true
      → HasPlannedKeys x.plan resolved_names a.resource
  plan_keys resolved_names solves a c applies block e meant is =
      let i = of_instance x a c applies in
      let own = keys_of_made x laws.stands laws.meaning x.resolved_names (plan_grown x laws.stands laws.grow x.resolved_names x.solves) a i i.by_plan.schema i.by_plan.is.made i.by_plan.is.makes block e meant is in
      instances_same x resolved_names x.resolved_names (λ m h. laws.one (deciding x.ms x.plan.prior.resources x.plan.shapes) x.plan.variables (plan_names x.plan) resolved_names x.resolved_names x.ranked solves x.solves m h) (for_each e) ∙ own

  request_keys : (requests : Requests) → AreRequests x.plan requests → (objects : ℕ → InstanceKeyView → Tree) (resolved_names : ℕ → ResolvedView) → AreResolvedNames (applying x.plan.shapes objects) x.plan.variables (plan_names x.plan) resolved_names
      → (a : ActionView) (schema : SchemaView) (asked : Asked) → Contains x.plan.actions a → is_apply a.step ≡ true → asked_for (plan_names x.plan) schema a (requests objects a schema) ≡ Ok asked
      → HasPlannedKeys x.plan resolved_names a.resource
  request_keys requests are objects resolved_names solves a schema asked c applies asks =
      let i = of_instance x a c applies in
      let made_object = was_made (ignored_by (meant_at (plan_names x.plan) a.resource)) schema a (requests objects a schema) a.step asked applies asks in
      keys_of_made x laws.stands laws.meaning resolved_names (apply_grown x laws.stands laws.grow objects resolved_names solves) a i schema made_object.0 (sym (are objects a schema resolved_names i.block solves i.meant) ∙ made_object.1)

pub keys_stay_in_plans : Laws → KeysStayInPlans
unfolding made
keys_stay_in_plans laws ms config variables prior plan resolved_names a is solves c applies = plan_keys (made ms config variables prior plan is) laws resolved_names solves a c applies

pub keys_stay_in_requests : Laws → KeysStayInRequests
unfolding made
keys_stay_in_requests laws ms config variables prior plan requests objects resolved_names a schema asked is are solves c applies asks =
    request_keys (made ms config variables prior plan is) laws requests are objects resolved_names solves a schema asked c applies asks
