-- What came of each action, and of each output, is one.
use Rattle.std.proofs.Common.{◌≡◌, ◌∙◌, ◌<◌, ◌⊎◌, inl, inr, ℕ, ◌+◌, Bool, true, if◌then◌else◌, List, [], ◌∷◌, ◌++◌, length, map, Option, Some, None, Result, MatchBool, refl, sym, ap, subst, arith}
use Rattle.std.proofs.lemmas.List.{append_cancel_left, ext_get_or}
use Rattle.std.specs.Option.{option_map_or}
use Rattle.std.specs.Prelude.{slice_get}
use Rattle.tf_plan_data.specs.Action.{ActionView, StepView, create, update, replacement, replaced, destroyed, deposed_destroyed}
use Rattle.tf_config_address.specs.ObjectId.{InstanceKeyView}
use Rattle.tf_plan_object.specs.Instance.{InstanceFaultView}
use Rattle.tf_config_data.specs.Names.{NameView, directly_before, meant_at, places}
use Rattle.tf_plan_object.specs.Kept.{kept_object}
use Rattle.tf_expand_keys.proofs.Places.{all_places}
use Rattle.tf_expand_keys.specs.InstanceKeys.{InstanceKeysView}
use Rattle.tf_graph.proofs.Solving.{seen_by-same, solution-unique}
use Rattle.tf_graph.specs.Digraph.{predecessors_of}
use Rattle.tf_graph.specs.Solutions.{Ranked, Solves, seen_by}
use Rattle.tf_walk_action.specs.Asked.{Requests, AreRequests, asked_by_step, asked_for, create_of, ignored_by, unless_faulty, update_of}
use Rattle.tf_walk_action.specs.Excuse.{excuse_of}
use Rattle.tf_walk_action.specs.Laws.{RequestsAreOne}
use Rattle.tf_walk_action.specs.Outcome.{AreOutcomes, ActionResultView, all_good, call_at, call_with, comes_of, done_at, objects_by, or_excused, rule, skipped}
use Rattle.tf_walk_action.specs.declared.excuse.Excuse.{Excuse}
use Rattle.tf_walk_action.specs.declared.excuse.Excuse.TheVariants.{Output}
use Rattle.tf_walk_outputs.specs.OutputLaws.{OutputsAreOne}
use Rattle.tf_walk_outputs.specs.Outputs.{OutputResultView, not_evaluated, excused, valued, faulted, AreOutputsDone, IsEvaluated, IsOutputDone, end_of}
use Rattle.tf_walk_outputs.specs.Settled.{all_settled, names_are_settled}
use Rattle.tf_walk_outputs.specs.declared.ends.OutputResult.{OutputResult}
use Rattle.tf_walk_outputs.specs.declared.ends.OutputResult.TheVariants.{NotEvaluated, NoMemory, Faulted, Valued}
use Rattle.tf_plan_data.specs.Fits.{IsDeclared, is_apply}
use Rattle.tf_plan_data.specs.Plan.{PlanView, plan_names}
use Rattle.tf_provider_protocol.specs.Meaning.{Meaning, schema_in}
use Rattle.tf_provider_protocol.specs.Schema.{SchemaView}
use Rattle.tf_walk_report.specs.OutputsTold.{output_excuses, output_excuses_at}
use Rattle.tf_walk_names.specs.Resolving.{is_resource}
use Rattle.tf_expr_syntax.specs.ExprNames.{named_by}
use Rattle.tf_expr_syntax.specs.ExprTree as expr
use Rattle.tf_value_data.specs.Tree.{Entries, Tree}
use Rattle.tf_laws.proofs.ListsOfEntries.{all_got}
use Rattle.tf_laws.specs.Founded.{IsFounded}

-- ---- actions

-- what an action asks depends on what its block makes only where it creates or updates
asked_same : (ignored : List (List ℕ)) (schema : SchemaView) (a : ActionView) (made other : Result Tree InstanceFaultView) (s : StepView) → (is_apply s ≡ true → made ≡ other)
    → asked_by_step ignored schema a made s ≡ asked_by_step ignored schema a other s
asked_same ignored schema a made other (create asked) same = ap (unless_faulty (create_of a)) (same refl)
asked_same ignored schema a made other (update prior asked names) same = ap (unless_faulty (λ t. update_of a prior (kept_object schema ignored prior t))) (same refl)
asked_same ignored schema a made other (replacement asked names) same = ap (unless_faulty (create_of a)) (same refl)
asked_same ignored schema a made other (replaced prior) same = refl
asked_same ignored schema a made other (destroyed prior) same = refl
asked_same ignored schema a made other (deposed_destroyed key prior) same = refl

module _ (law : RequestsAreOne) (ms : List Meaning) (plan : PlanView) (requests others : Requests) (founded : IsFounded plan) (are : AreRequests plan requests) (also : AreRequests plan others) where
  made_same : (objects : ℕ → InstanceKeyView → Tree) (a : ActionView) (schema : SchemaView) → IsDeclared (plan_names plan) a → is_apply a.step ≡ true → requests objects a schema ≡ others objects a schema
  made_same objects a schema declared applies =
      law plan requests others founded.names are also objects a schema (ap is_resource (declared applies).stands)

  call_same_with : (objects : ℕ → InstanceKeyView → Tree) (a : ActionView) → IsDeclared (plan_names plan) a → call_with ms requests plan objects a ≡ call_with ms others plan objects a
  call_same_with objects a declared = by_schema (schema_in a.addr.type_name ms)
    where
      by_schema : (o : Option SchemaView)
          → option_map_or (λ schema. comes_of ms (asked_for (plan_names plan) schema a (requests objects a schema))) o skipped
          ≡ option_map_or (λ schema. comes_of ms (asked_for (plan_names plan) schema a (others objects a schema))) o skipped
      by_schema None = refl
      by_schema (Some schema) =
          ap (comes_of ms) (asked_same (ignored_by (meant_at (plan_names plan) a.resource)) schema a (requests objects a schema) (others objects a schema) a.step (made_same objects a schema declared))

  call_same : (n : ℕ) (seen : List (ℕ × ActionResultView)) → call_at ms requests plan n seen ≡ call_at ms others plan n seen
  call_same n seen = by_action (slice_get plan.actions n) refl
    where
      by_action : (o : Option ActionView) → slice_get plan.actions n ≡ o → option_map_or (call_with ms requests plan (objects_by plan seen)) o skipped ≡ option_map_or (call_with ms others plan (objects_by plan seen)) o skipped
      by_action None e = refl
      by_action (Some a) e = call_same_with (objects_by plan seen) a (all_got (IsDeclared (plan_names plan)) plan.actions founded.declared n a e)

  -- what solves the rule by the one requests solves it by the others
  solves_too : (excuses : List Excuse) (done : List ActionResultView) → Solves (length plan.actions) (predecessors_of plan.order) (rule ms others plan excuses) (done_at done)
      → Solves (length plan.actions) (predecessors_of plan.order) (rule ms requests plan excuses) (done_at done)
  solves_too excuses done s = λ n h.
      let seen = seen_by (done_at done) (predecessors_of plan.order n) in
      s n h ∙ ap (λ (d : ActionResultView). if all_good seen then or_excused (excuse_of excuses n) d else skipped) (sym (call_same n seen))

  -- what came of the actions is one
  pub outcomes_one : (excuses : List Excuse) (done other : List ActionResultView) → AreOutcomes ms requests plan excuses done → AreOutcomes ms others plan excuses other → done ≡ other
  outcomes_one excuses done other d o =
      let same = solution-unique (length plan.actions) (predecessors_of plan.order) (rule ms requests plan excuses) (done_at done) (done_at other) founded.order founded.within d.solves (solves_too excuses other o.solves) in
      ext_get_or skipped done other (d.all ∙ sym o.all) (λ i h. same i (subst (λ (k : ℕ). i < k) d.all h))

-- ---- outputs

module _ (names : List NameView) (settled others : ℕ → Bool) (same : (n : ℕ) → n < length names → settled n ≡ others n) where
  settled_same : (e : expr.Tree) → names_are_settled names settled e ≡ names_are_settled names others e
  settled_same e = ap all_settled (seen_by-same settled others (places names (named_by e)) (all_places (λ n. settled n ≡ others n) names (named_by e) same))

  -- the same comes of an output by names that are settled alike
  pub done_too : (variables : Entries) (shapes : ℕ → InstanceKeysView) (objects : ℕ → InstanceKeyView → Tree) (e : expr.Tree) (d : OutputResultView)
      → IsOutputDone variables names shapes objects settled e d → IsOutputDone variables names shapes objects others e d
  done_too variables shapes objects e d h = subst (λ (b : Bool). MatchBool b (IsEvaluated variables names shapes objects e d) (d ≡ not_evaluated)) (settled_same e) h

-- the excuses of outputs behind a place don't name it
none_before : (n k : ℕ) → n < k → (ends : List OutputResult) (rest : List Excuse) → output_excuses k ends ≡ Output n ∷ rest → ⊥
none_before n k less [] rest e = absurd (cc)
none_before n k less (NotEvaluated ∷ ends) rest e = none_before n (k + 1) (omega arith) ends rest e
none_before n k less (NoMemory ∷ ends) rest e = let same : k ≡ n = (cc) in absurd (omega (arith, same))
none_before n k less (Faulted why ∷ ends) rest e = none_before n (k + 1) (omega arith) ends rest e
none_before n k less (Valued ∷ ends) rest e = none_before n (k + 1) (omega arith) ends rest e

-- an output is excused, or there is no excuse of it
by_excuse : (k : ℕ) (d : OutputResultView) → (d ≡ excused) ⊎ ((d ≡ excused → ⊥) × (output_excuses_at k (end_of d) ≡ []))
by_excuse k excused = inl refl
by_excuse k not_evaluated = inr (λ e. absurd (cc), refl)
by_excuse k (valued t) = inr (λ e. absurd (cc), refl)
by_excuse k (faulted why) = inr (λ e. absurd (cc), refl)

module _ (law : OutputsAreOne) (variables : Entries) (names : List NameView) (shapes : ℕ → InstanceKeysView) (objects : ℕ → InstanceKeyView → Tree) (settled others : ℕ → Bool) (ranked : Ranked (directly_before names))
    (same : (n : ℕ) → n < length names → settled n ≡ others n) where
  -- of the first of two lists of excuses, and of the output that it is of
  first_same : (e : expr.Tree) (k : ℕ) (d f : OutputResultView) (ds fs : List OutputResult) → IsOutputDone variables names shapes objects settled e d → IsOutputDone variables names shapes objects others e f
      → output_excuses_at k (end_of d) ++ output_excuses (k + 1) ds ≡ output_excuses_at k (end_of f) ++ output_excuses (k + 1) fs
      → (d ≡ f) × (output_excuses (k + 1) ds ≡ output_excuses (k + 1) fs)
  first_same e k d f ds fs h g x = by_both (by_excuse k d) (by_excuse k f)
    where
      by_both : (d ≡ excused) ⊎ ((d ≡ excused → ⊥) × (output_excuses_at k (end_of d) ≡ [])) → (f ≡ excused) ⊎ ((f ≡ excused → ⊥) × (output_excuses_at k (end_of f) ≡ []))
          → (d ≡ f) × (output_excuses (k + 1) ds ≡ output_excuses (k + 1) fs)
      by_both (inl p) (inl q) =
          let left : output_excuses_at k (end_of d) ≡ Output k ∷ [] = ap (λ (o : OutputResultView). output_excuses_at k (end_of o)) p in
          let right : output_excuses_at k (end_of f) ≡ Output k ∷ [] = ap (λ (o : OutputResultView). output_excuses_at k (end_of o)) q in (
            p ∙ sym q,
            append_cancel_left (Output k ∷ []) (output_excuses (k + 1) ds) (output_excuses (k + 1) fs)
                (ap (λ (es : List Excuse). es ++ output_excuses (k + 1) ds) (sym left) ∙ x ∙ ap (λ (es : List Excuse). es ++ output_excuses (k + 1) fs) right),
          )
      by_both (inl p) (inr q) =
          let left : output_excuses_at k (end_of d) ≡ Output k ∷ [] = ap (λ (o : OutputResultView). output_excuses_at k (end_of o)) p in
          absurd
          (none_before k (k + 1) (omega arith) fs (output_excuses (k + 1) ds)
          (ap (λ (es : List Excuse). es ++ output_excuses (k + 1) fs) (sym q.1) ∙ sym x ∙ ap (λ (es : List Excuse). es ++ output_excuses (k + 1) ds) left))
      by_both (inr p) (inl q) =
          let right : output_excuses_at k (end_of f) ≡ Output k ∷ [] = ap (λ (o : OutputResultView). output_excuses_at k (end_of o)) q in
          absurd
          (none_before k (k + 1) (omega arith) ds (output_excuses (k + 1) fs)
          (ap (λ (es : List Excuse). es ++ output_excuses (k + 1) ds) (sym p.1) ∙ x ∙ ap (λ (es : List Excuse). es ++ output_excuses (k + 1) fs) right))
      by_both (inr p) (inr q) = (
        law variables names shapes objects others e d f ranked (done_too names settled others same variables shapes objects e d h) g p.0 q.0,
        ap (λ (es : List Excuse). es ++ output_excuses (k + 1) ds) (sym p.1) ∙ x ∙ ap (λ (es : List Excuse). es ++ output_excuses (k + 1) fs) q.1,
      )

  -- what came of the outputs is one, for the same excuses
  pub outputs_one : (es : expr.Entries) (ds fs : List OutputResultView) (k : ℕ) → AreOutputsDone variables names shapes objects settled es ds → AreOutputsDone variables names shapes objects others es fs
      → output_excuses k (map end_of ds) ≡ output_excuses k (map end_of fs) → ds ≡ fs
  outputs_one expr.no_entries [] [] k h g x = refl
  outputs_one expr.no_entries [] (f ∷ fs) k h g x = absurd g
  outputs_one expr.no_entries (d ∷ ds) fs k h g x = absurd h
  outputs_one (expr.entry name e es) [] fs k h g x = absurd h
  outputs_one (expr.entry name e es) (d ∷ ds) [] k h g x = absurd g
  outputs_one (expr.entry name e es) (d ∷ ds) (f ∷ fs) k h g x =
      let first = first_same e k d f (map end_of ds) (map end_of fs) h.0 g.0 x in
      let rest : ds ≡ fs = outputs_one es ds fs (k + 1) h.1 g.1 first.1 in
      ap (λ (o : OutputResultView). o ∷ ds) first.0 ∙ ap (λ (os : List OutputResultView). f ∷ os) rest
