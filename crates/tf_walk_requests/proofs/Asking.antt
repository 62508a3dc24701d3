-- What is asked of an action, by the objects of earlier ones.
use Rattle.std.proofs.Common.{◌≡◌, ◌∙◌, ℕ, Bool, true, false, if◌then◌else◌, List, [], ◌∷◌, Option, Some, None, Result, Ok, Err, IfOk, refl, sym, ap, ap₂, subst}
use Rattle.std.proofs.Math.Path.{fun_ext}
use Rattle.std.specs.Prelude.{◌==◌, ◌&&◌, is_some, IsSomeAnd, Contains, slice_get, ⊤}
use Rattle.std.specs.Option.{option_and_then, option_map_or}
use Rattle.std.specs.declared.alloc.AllocError.{AllocError}
use Rattle.tf_config_address.specs.ObjectId.{InstanceKeyView}
use Rattle.tf_config_address.specs.Same.{same_instance_key}
use Rattle.tf_config_data.specs.Names.{NameView}
use Rattle.tf_expand_keys.specs.declared.resolved.Resolved.{Resolved}
use Rattle.tf_graph.proofs.Edges.{contains_head, contains_tail}
use Rattle.tf_graph.specs.Digraph.{predecessors_of}
use Rattle.tf_graph.specs.Solutions.{seen_by}
use Rattle.tf_walk_requests.specs.Asks.{HaveObjects, applies, IsAskedOf, results_with}
use Rattle.tf_plan_data.specs.Action.{ActionView}
use Rattle.tf_plan_data.specs.Fits.{is_apply}
use Rattle.tf_plan_data.specs.Plan.{PlanView, plan_names}
use Rattle.tf_plan_data.specs.Served.{IsServedBy}
use Rattle.tf_plan_object.specs.Instance.{InstanceFaultView, instance_fault_of}
use Rattle.tf_provider_protocol.specs.Meaning.{Answer, Asked, Meaning, asked, first_with, schema_in}
use Rattle.tf_provider_protocol.specs.Schema.{SchemaView}
use Rattle.tf_provider_protocol.specs.Verdict.{verdict_on}
use Rattle.tf_provider_protocol.specs.declared.verdict.Verdict.{Verdict}
use Rattle.tf_state_data.specs.State.{StateView}
use Rattle.tf_value_data.specs.Tree.{Tree}
use Rattle.tf_walk_action.proofs.AskedRight.{asked-with}
use Rattle.tf_walk_action.specs.ActionResult.{ActionResultView, skipped, excused, faulted, called}
use Rattle.tf_walk_action.specs.Asked.{AreRequests, Requests, asked_for}
use Rattle.tf_walk_action.specs.AskedBy.{asked_by}
use Rattle.tf_walk_action.specs.Objects.{is_of, object_of, objects_seen}
use Rattle.tf_walk_action.specs.Outcome.{call_of, call_of_provider, call_with, comes_of, objects_by}
use Rattle.tf_walk_action.specs.SoFar.{ResolvedSoFar}
use Rattle.tf_walk_action.specs.declared.action_result.Faulted.{Faulted}
use Rattle.tf_walk_action.specs.declared.prepared_call.PreparedCall.{PreparedCall}

-- ---- the outcome of a request determines the request

-- the result is that of a call by a request, or nobody was called
abbrev IsCallOf : Asked → ActionResultView → Type 0
IsCallOf q skipped = ⊤
IsCallOf q (called r answer v) = r ≡ q
IsCallOf q (excused m) = ⊥
IsCallOf q (faulted why) = ⊥

-- the result is that of a fault
abbrev IsFaultOf : InstanceFaultView → ActionResultView → Type 0
IsFaultOf why skipped = ⊥
IsFaultOf why (called r answer v) = ⊥
IsFaultOf why (excused m) = ⊥
IsFaultOf why (faulted other) = other ≡ why

by_schema : (q : Asked) (m : Meaning) (o : Option SchemaView) → IsCallOf q (option_map_or {U = ActionResultView} (λ s. called q (Some (m.answer q)) (verdict_on q (Some (m.answer q)) s)) o skipped)
by_schema q m None = tt
by_schema q m (Some s) = refl

by_provider : (q : Asked) (o : Option Meaning) → IsCallOf q (option_map_or {U = ActionResultView} (call_of_provider q) o skipped)
by_provider q None = tt
by_provider q (Some m) = by_schema q m (m.schema_of q.type_name)

-- a provider that has the type is called
reached : (q : Asked) (o : Option Meaning) (s : SchemaView) → option_and_then (λ (m : Meaning). m.schema_of q.type_name) o ≡ Some s
    → (answer : Option Answer) × ((v : Verdict) × (option_map_or {U = ActionResultView} (call_of_provider q) o skipped ≡ called q answer v))
reached q None s h = absurd (cc)
reached q (Some m) s h =
    (Some (m.answer q), (verdict_on q (Some (m.answer q)) s, ap (λ (o : Option SchemaView). option_map_or {U = ActionResultView} (λ t. called q (Some (m.answer q)) (verdict_on q (Some (m.answer q)) t)) o skipped) h))

shown : (ms : List Meaning) (q : Asked) (s : SchemaView) (other : Result Asked InstanceFaultView) → schema_in q.type_name ms ≡ Some s → call_of ms q ≡ comes_of ms other → other ≡ Ok q
shown ms q s (Ok r) there same =
    let own = reached q (first_with q.type_name ms) s there in
    let is : IsCallOf r (called q own.0 own.1.0) = subst (IsCallOf r) (sym same ∙ own.1.1) (by_provider r (first_with r.type_name ms)) in
    ap Ok (sym is)
shown ms q s (Err why) there same =
    let wrong : IsCallOf q (faulted why) = subst (IsCallOf q) same (by_provider q (first_with q.type_name ms)) in
    absurd wrong

shown_fault : (ms : List Meaning) (why : InstanceFaultView) (other : Result Asked InstanceFaultView) → faulted why ≡ comes_of ms other → other ≡ Err why
shown_fault ms why (Ok r) same =
    let wrong : IsCallOf r (faulted why) = subst (IsCallOf r) (sym same) (by_provider r (first_with r.type_name ms)) in
    absurd wrong
shown_fault ms why (Err w) same =
    let one : IsFaultOf why (faulted w) = subst (IsFaultOf why) same refl in
    ap Err one

-- if some provider has the type of a request, its outcome determines it
shown_by : (ms : List Meaning) (P : SchemaView → Type 0) (q : Asked) (other : Result Asked InstanceFaultView) (o : Option SchemaView) → schema_in q.type_name ms ≡ o → IsSomeAnd o P
    → call_of ms q ≡ comes_of ms other → other ≡ Ok q
shown_by ms P q other None there h same = absurd h
shown_by ms P q other (Some s) there h same = shown ms q s other there same

made_shown : (ms : List Meaning) (P : Asked → SchemaView → Type 0) (made : Result PreparedCall Faulted) (other : Result Asked InstanceFaultView)
    → IfOk made (λ asking. IsSomeAnd (schema_in (asked asking.request).type_name ms) (P (asked asking.request))) → comes_of ms (asked_by made) ≡ comes_of ms other → other ≡ asked_by made
made_shown ms P (Ok asking) other served same = shown_by ms (P (asked asking.request)) (asked asking.request) other (schema_in (asked asking.request).type_name ms) refl served same
made_shown ms P (Err f) other served same = shown_fault ms (instance_fault_of f.fault) other same

-- ---- the objects of instances

-- an object is seen only if its action creates or updates
by_kind : (p q r : Bool) (t u x y : Tree) → (p ≡ true → t ≡ u) → x ≡ y → (if p && q && r then t else x) ≡ (if p && q && r then u else y)
by_kind false q r t u x y h e = e
by_kind true q r t u x y h e = ap₂ (λ (v w : Tree). if true && q && r then v else w) (h refl) e

by_action : (o : Option ActionView) (place : ℕ) (key : InstanceKeyView) (t u x y : Tree) → (applies o ≡ true → t ≡ u) → x ≡ y → (if is_of o place key then t else x) ≡ (if is_of o place key then u else y)
by_action None place key t u x y h e = e
by_action (Some a) place key t u x y h e = by_kind (is_apply a.step) (a.resource == place) (same_instance_key a.key key) t u x y h e

objects_same : (names : List NameView) (prior : StateView) (actions : List ActionView) (objects : ℕ → Tree) (done : ℕ → ActionResultView) (xs : List ℕ) (place : ℕ) (key : InstanceKeyView)
    → ((m : ℕ) → Contains xs m → applies (slice_get actions m) ≡ true → object_of (done m) ≡ objects m) → objects_seen names prior actions (seen_by done xs) place key ≡ objects_seen names prior actions (seen_by (results_with objects) xs) place key
objects_same names prior actions objects done [] place key have = refl
objects_same names prior actions objects done (m ∷ xs) place key have =
    by_action (slice_get actions m) place key (object_of (done m)) (objects m) (objects_seen names prior actions (seen_by done xs) place key) (objects_seen names prior actions (seen_by (results_with objects) xs) place key)
    (have m (contains_head m m xs refl)) (objects_same names prior actions objects done xs place key (λ k c. have k (contains_tail k m xs c)))

-- ---- the whole

some_schema : (o : Option SchemaView) → is_some o ≡ true → (s : SchemaView) × (o ≡ Some s)
some_schema None h = absurd (cc)
some_schema (Some s) h = (s, refl)

-- what is asked of the action is what the definition says
pub asked_of : (ms : List Meaning) (P : Asked → SchemaView → Type 0) (plan : PlanView) (n : ℕ) (objects : ℕ → Tree) (o : ℕ → InstanceKeyView → Tree) (a : ActionView) (made : Result PreparedCall Faulted)
    → slice_get plan.actions n ≡ Some a → IsServedBy ms a → o ≡ objects_by plan (seen_by (results_with objects) (predecessors_of plan.order n))
    → IfOk made (λ asking. IsSomeAnd (schema_in (asked asking.request).type_name ms) (P (asked asking.request)))
    → ((requests : Requests) → AreRequests plan requests → comes_of ms (asked_by made) ≡ call_with ms requests plan o a) → IsAskedOf ms plan n objects (asked_by made)
asked_of ms P plan n objects o a made here served same fully comes =
    let schema = some_schema (schema_in a.addr.type_name ms) served in
    record {
      action = a;
      schema = schema.0;
      is_action = here;
      is_schema = schema.1;
      asks = λ requests done are have.
          let seen = objects_by plan (seen_by done (predecessors_of plan.order n)) in
          let preds = predecessors_of plan.order n in
          let pointwise : seen ≡ objects_by plan (seen_by (results_with objects) preds) =
          fun_ext (λ (place : ℕ). fun_ext (λ (key : InstanceKeyView). objects_same (plan_names plan) plan.prior plan.actions objects done preds place key have)) in
          let alike : o ≡ seen = same ∙ sym pointwise in
          let answer = asked_for (plan_names plan) schema.0 a (requests seen a schema.0) in
          made_shown ms P made answer fully
          (comes requests are ∙ ap (λ (f : ℕ → InstanceKeyView → Tree). call_with ms requests plan f a) alike ∙ sym (asked-with ms requests plan seen a schema.0 answer schema.1 refl));
    }

-- and of each good result
pub asked_here : (ms : List Meaning) (P : Asked → SchemaView → Type 0) (plan : PlanView) (n : ℕ) (objects : ℕ → Tree) (o : ℕ → InstanceKeyView → Tree) (a : ActionView) (result : Result (Result PreparedCall Faulted) AllocError)
    → slice_get plan.actions n ≡ Some a → IsServedBy ms a → o ≡ objects_by plan (seen_by (results_with objects) (predecessors_of plan.order n))
    → IfOk result (λ made. IfOk made (λ asking. IsSomeAnd (schema_in (asked asking.request).type_name ms) (P (asked asking.request))))
    → IfOk result (λ made. (requests : Requests) → AreRequests plan requests → comes_of ms (asked_by made) ≡ call_with ms requests plan o a) → IfOk result (λ made. IsAskedOf ms plan n objects (asked_by made))
asked_here ms P plan n objects o a (Ok made) here served same fully comes = asked_of ms P plan n objects o a made here served same fully comes
asked_here ms P plan n objects o a (Err e) here served same fully comes = tt

-- at first nothing stands
pub empty_so_far : (plan : PlanView) (objects : ℕ → InstanceKeyView → Tree) (kept : List Resolved) → kept ≡ [] → ResolvedSoFar plan objects kept
empty_so_far plan objects [] e resolved_names are n h = absurd (cc)
empty_so_far plan objects (x ∷ xs) e resolved_names are n h = absurd (cc)
