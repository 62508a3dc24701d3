-- The steps of one instance are about different objects.
use Rattle.std.proofs.Common.{◌≡◌, ◌∙◌, ◌++◌, Bool, false, ℕ, List, [], ◌∷◌, Option, Some, None, map, refl, sym, ap, subst, arith, inl, inr}
use Rattle.std.proofs.lemmas.List.{map-append}
use Rattle.std.specs.List.{AllByRecursion, flat_map}
use Rattle.std.specs.Prelude.{Contains}
use Rattle.tf_plan_data.specs.Action.{StepView, replacement, replaced}
use Rattle.tf_plan_decision.specs.Steps.{current_steps, decided_steps, deposed_step, destroy_if_deposed, destroy_of, removal_steps}
use Rattle.tf_plan_decision.specs.Decision as decision
use Rattle.tf_plan_decision.specs.Decision.{DecisionView, current}
use Rattle.tf_graph.proofs.Edges.{contains_cases, contains_head, contains_tail}
use Rattle.tf_plan_planner.proofs.Distinct.{AreDistinct, all-contained, distinct-append}
use Rattle.tf_plan_data.specs.Fits.{is_apply, deposed_key}
use Rattle.tf_state_data.specs.Record.{RecordView}
use Rattle.tf_value_data.specs.Tree.{Tree}

-- what tells the steps of an instance apart: whether one makes or changes an object, and the key of the deposed object that it
-- destroys
abbrev pub Sign : Type 0
Sign = Bool × Option (List ℕ)

abbrev pub sign : StepView → Sign
sign s = (is_apply s, deposed_key s)

-- by which keys the objects of records are deposed
abbrev pub deposed_of : List RecordView → List (Option (List ℕ))
deposed_of records = map (λ r. r.id.deposed) records

nothing-in : {A : Type 0} (x : A) → Contains [] x → ⊥
nothing-in x c = omega (arith, c.1)

-- ---- steps about the current object

current-distinct : (prior : Option RecordView) (d : DecisionView) → AreDistinct (map sign (current_steps prior d))
current-distinct prior decision.nothing = tt
current-distinct prior (decision.create asked) = (nothing-in _, tt)
current-distinct None (decision.update asked names) = tt
current-distinct (Some r) (decision.update asked names) = (nothing-in _, tt)
current-distinct None (decision.replace asked names) = tt
current-distinct (Some r) (decision.replace asked names) = (
  λ c. elim (contains_cases (sign (replacement asked names)) (sign (replaced r.attributes)) [] c) [
    | inl here ↦ let same = ap (λ (p : Sign). p.0) here in absurd (cc)
    | inr rest ↦ nothing-in _ rest
  ],
  (nothing-in _, tt),
)

current-none : (prior : Option RecordView) (d : DecisionView) → AllByRecursion (λ (p : Sign). p.1 ≡ None) (map sign (current_steps prior d))
current-none prior decision.nothing = tt
current-none prior (decision.create asked) = (refl, tt)
current-none None (decision.update asked names) = tt
current-none (Some r) (decision.update asked names) = (refl, tt)
current-none None (decision.replace asked names) = tt
current-none (Some r) (decision.replace asked names) = (refl, (refl, tt))

-- ---- steps about deposed objects

abbrev IsDeposed : List RecordView → Sign → Type 0
IsDeposed records p = ((key : List ℕ) × (p.1 ≡ Some key)) × Contains (deposed_of records) p.1

deposed-signs : (records : List RecordView) (p : Sign) → Contains (map sign (flat_map deposed_step records)) p → IsDeposed records p
deposed-signs [] p c = absurd (nothing-in p c)
deposed-signs (r ∷ records) p c = by_option r.id.deposed c (λ d. deposed-signs records p d)
  where
    by_option : (o : Option (List ℕ)) → Contains (map sign (destroy_if_deposed o r.attributes ++ flat_map deposed_step records)) p
        → (Contains (map sign (flat_map deposed_step records)) p → IsDeposed records p) → ((key : List ℕ) × (p.1 ≡ Some key)) × Contains (o ∷ deposed_of records) p.1
    by_option None d again = let later = again d in (later.0, contains_tail p.1 None (deposed_of records) later.1)
    by_option (Some key) d again = elim (contains_cases p (false, Some key) (map sign (flat_map deposed_step records)) d) [
      | inl here ↦ let same = ap (λ (q : Sign). q.1) here in ((key, sym same), contains_head p.1 (Some key) (deposed_of records) same)
      | inr rest ↦ let later = again rest in (later.0, contains_tail p.1 (Some key) (deposed_of records) later.1)
    ]

deposed-distinct : (records : List RecordView) → AreDistinct (deposed_of records) → AreDistinct (map sign (flat_map deposed_step records))
deposed-distinct [] d = tt
deposed-distinct (r ∷ records) d = by_option r.id.deposed d.0 (deposed-distinct records d.1)
  where
    by_option : (o : Option (List ℕ)) → (Contains (deposed_of records) o → ⊥) → AreDistinct (map sign (flat_map deposed_step records))
        → AreDistinct (map sign (destroy_if_deposed o r.attributes ++ flat_map deposed_step records))
    by_option None fresh rest = rest
    by_option (Some key) fresh rest = (λ c. fresh (deposed-signs records (false, Some key) c).1, rest)

-- the steps of an instance that the configuration has
pub decided-distinct : (records : List RecordView) (d : DecisionView) → AreDistinct (deposed_of records) → AreDistinct (map sign (decided_steps records d))
decided-distinct records d distinct =
    let first : List StepView = current_steps (current records) d in
    subst AreDistinct (sym (map-append sign first (flat_map deposed_step records)))
    (distinct-append (map sign first) (map sign (flat_map deposed_step records)) (current-distinct (current records) d) (deposed-distinct records distinct)
    (λ p c e.
    let none : p.1 ≡ None = all-contained (λ (q : Sign). q.1 ≡ None) (map sign first) p (current-none (current records) d) c in
    let some = (deposed-signs records p e).0 in
    let is : p.1 ≡ Some some.0 = some.1 in
    absurd (cc)))

-- ---- steps about all objects

destroy-sign : (o : Option (List ℕ)) (prior : Tree) → sign (destroy_of o prior) ≡ (false, o)
destroy-sign None prior = refl
destroy-sign (Some key) prior = refl

removal-signs : (records : List RecordView) (p : Sign) → Contains (map sign (removal_steps records)) p → Contains (deposed_of records) p.1
removal-signs [] p c = absurd (nothing-in p c)
removal-signs (r ∷ records) p c = elim (contains_cases p (sign (destroy_of r.id.deposed r.attributes)) (map sign (removal_steps records)) c) [
  | inl here ↦ contains_head p.1 r.id.deposed (deposed_of records) (sym (ap (λ (q : Sign). q.1) (destroy-sign r.id.deposed r.attributes)) ∙ ap (λ (q : Sign). q.1) here)
  | inr rest ↦ contains_tail p.1 r.id.deposed (deposed_of records) (removal-signs records p rest)
]

-- the steps of an instance that the configuration doesn't have
pub removal-distinct : (records : List RecordView) → AreDistinct (deposed_of records) → AreDistinct (map sign (removal_steps records))
removal-distinct [] d = tt
removal-distinct (r ∷ records) d = (
  λ c.
      let there = removal-signs records (sign (destroy_of r.id.deposed r.attributes)) c in
      d.0 (subst (Contains (deposed_of records)) (ap (λ (q : Sign). q.1) (destroy-sign r.id.deposed r.attributes)) there),
  removal-distinct records d.1,
)

-- none of them makes or changes an object
pub removal-destroys : (records : List RecordView) → AllByRecursion (λ s. is_apply s ≡ false) (removal_steps records)
removal-destroys [] = tt
removal-destroys (r ∷ records) = (ap (λ (q : Sign). q.0) (destroy-sign r.id.deposed r.attributes), removal-destroys records)
