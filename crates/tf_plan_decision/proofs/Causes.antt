-- What each decision says of its cause.
use Rattle.std.proofs.Common.{◌≡◌, ◌⊎◌, inl, inr, ℕ, Bool, true, false, not, cond, List, [], ◌∷◌, filter, Option, Some, None, Result, Ok, Err, refl, sym, ap, ◌∙◌}
use Rattle.std.specs.List.{list_all}
use Rattle.tf_plan_object.specs.Instance.{InstanceFaultView}
use Rattle.tf_provider_protocol.specs.Schema.{SchemaView}
use Rattle.tf_value_data.specs.Tree.{Tree}
use Rattle.tf_value_data.proofs.Conjunction.{and-both}
use Rattle.tf_plan_decision.specs.Decision.{DecisionView, nothing, create, update, replace, update_or_replace, by_differing, beside, change, DecisionFaultView, unless_prevented, decided, unless_unfit, current}
use Rattle.tf_plan_decision.specs.Differing.{differing, forces_new, forcing}
use Rattle.tf_plan_decision.specs.Ignored.{with_ignored_changes, ignored_fault}
use Rattle.tf_plan_object.specs.Kept.{kept_object}
use Rattle.tf_plan_decision.specs.Laws.{CreatesAreFirst, UpdatesDiffer, IsForced, ReplacesHaveACause, PreventedStay}
use Rattle.tf_plan_decision.specs.Prior.{PriorFaultView, first_unfit}

-- the parts of a decision
parts_of_update : (t u : Tree) (xs ys : List (List ℕ)) → update t xs ≡ update u ys → (t ≡ u) × (xs ≡ ys)
parts_of_update t u xs ys e = ((cc), (cc))

parts_of_replace : (t u : Tree) (xs ys : List (List ℕ)) → replace t xs ≡ replace u ys → (t ≡ u) × (xs ≡ ys)
parts_of_replace t u xs ys e = ((cc), (cc))

not_empty : {A : Type 0} (x : A) (xs names : List A) → x ∷ xs ≡ names → ¬ (names ≡ [])
not_empty x xs names e = λ h. absurd (cc)

filter_step : (p : List ℕ → Bool) (name : List ℕ) (names : List (List ℕ)) (b : Bool) → p name ≡ b → cond b (name ∷ filter p names) (filter p names) ≡ [] → (p name ≡ false) × (filter p names ≡ [])
filter_step p name names true e h = absurd (cc)
filter_step p name names false e h = (e, h)

-- what a filter leaves nothing of fails its test
none_left : (p : List ℕ → Bool) (names : List (List ℕ)) → filter p names ≡ [] → list_all (λ name. not (p name)) names ≡ true
none_left p [] h = refl
none_left p (name ∷ names) h =
    let both = filter_step p name names (p name) refl h in
    and-both (not (p name)) (list_all (λ x. not (p x)) names) (ap not both.0) (none_left p names both.1)

all_step : (p : List ℕ → Bool) (name : List ℕ) (names : List (List ℕ)) (b : Bool) → p name ≡ b → list_all p names ≡ true → list_all p (cond b (name ∷ names) names) ≡ true
all_step p name names true e h = and-both (p name) (list_all p names) e h
all_step p name names false e h = h

-- and what it leaves passes its test
left_pass : (p : List ℕ → Bool) (names : List (List ℕ)) → list_all p (filter p names) ≡ true
left_pass p [] = refl
left_pass p (name ∷ names) = all_step p name (filter p names) (p name) refl (left_pass p names)

-- no decision beside a prior object is a create
forced_no_create : (planned kept t : Tree) (names forces : List (List ℕ)) → update_or_replace planned kept names forces ≡ create t → ⊥
forced_no_create planned kept t names [] e = cc
forced_no_create planned kept t names (f ∷ fs) e = cc

beside_no_create : (schema : SchemaView) (planned kept t : Tree) (names : List (List ℕ)) → by_differing schema planned kept names ≡ create t → ⊥
beside_no_create schema planned kept t [] e = cc
beside_no_create schema planned kept t (n ∷ ns) e = forced_no_create planned kept t (n ∷ ns) (forcing schema (n ∷ ns)) e

tainted_no_create : (schema : SchemaView) (ignored : List (List ℕ)) (b : Bool) (prior planned t : Tree) → cond b (replace planned []) (beside schema ignored prior planned) ≡ create t → ⊥
tainted_no_create schema ignored true prior planned t e = cc
tainted_no_create schema ignored false prior planned t e =
    let kept = kept_object schema ignored prior planned in beside_no_create schema planned kept t (differing prior kept) e

pub creates_first : CreatesAreFirst
creates_first schema ignored None planned t e = (refl, (cc))
creates_first schema ignored (Some r) planned t e = absurd (tainted_no_create schema ignored r.tainted r.attributes planned t e)

-- what an update says, of the names that differ and of those whose changes replace the object
forced_update : (planned kept t : Tree) (all forces names : List (List ℕ)) → update_or_replace planned kept all forces ≡ update t names → (forces ≡ []) × (kept ≡ t) × (all ≡ names)
forced_update planned kept t all [] names e = let both = parts_of_update kept t all names e in (refl, both.0, both.1)
forced_update planned kept t all (f ∷ fs) names e = absurd (cc)

beside_update : (schema : SchemaView) (planned kept t : Tree) (all names : List (List ℕ)) → by_differing schema planned kept all ≡ update t names
    → (forcing schema all ≡ []) × (kept ≡ t) × (all ≡ names) × (¬ (names ≡ []))
beside_update schema planned kept t [] names e = absurd (cc)
beside_update schema planned kept t (n ∷ ns) names e =
    let all = forced_update planned kept t (n ∷ ns) (forcing schema (n ∷ ns)) names e in (all.0, all.1, all.2, not_empty n ns names all.2)

tainted_update : (schema : SchemaView) (ignored : List (List ℕ)) (b : Bool) (prior planned t : Tree) (names : List (List ℕ)) → cond b (replace planned []) (beside schema ignored prior planned) ≡ update t names
    → (b ≡ false) × (beside schema ignored prior planned ≡ update t names)
tainted_update schema ignored true prior planned t names e = absurd (cc)
tainted_update schema ignored false prior planned t names e = (refl, e)

pub updates_differ : UpdatesDiffer
updates_differ schema ignored r planned t names e =
    let kept = kept_object schema ignored r.attributes planned in
    let found = tainted_update schema ignored r.tainted r.attributes planned t names e in
    let says = beside_update schema planned kept t (differing r.attributes kept) names found.1 in
    record {
      untainted = found.0;
      object = sym says.1;
      differs = sym says.2 ∙ ap (differing r.attributes) says.1;
      some = says.3;
      none_forces = none_left (forces_new schema) names (ap (forcing schema) (sym says.2) ∙ says.0);
    }

-- what a replace says
forced_replace : (planned kept t : Tree) (all forces names : List (List ℕ)) → update_or_replace planned kept all forces ≡ replace t names → (planned ≡ t) × (forces ≡ names) × (¬ (names ≡ []))
forced_replace planned kept t all [] names e = absurd (cc)
forced_replace planned kept t all (f ∷ fs) names e = let both = parts_of_replace planned t (f ∷ fs) names e in (both.0, both.1, not_empty f fs names both.1)

beside_replace : (schema : SchemaView) (planned kept t : Tree) (all names : List (List ℕ)) → by_differing schema planned kept all ≡ replace t names
    → (planned ≡ t) × (forcing schema all ≡ names) × (¬ (names ≡ []))
beside_replace schema planned kept t [] names e = absurd (cc)
beside_replace schema planned kept t (n ∷ ns) names e = forced_replace planned kept t (n ∷ ns) (forcing schema (n ∷ ns)) names e

tainted_replace : (schema : SchemaView) (ignored : List (List ℕ)) (b : Bool) (prior planned t : Tree) (names : List (List ℕ)) → cond b (replace planned []) (beside schema ignored prior planned) ≡ replace t names
    → ((b ≡ true) × (planned ≡ t) × (names ≡ [])) ⊎ ((b ≡ false) × (beside schema ignored prior planned ≡ replace t names))
tainted_replace schema ignored true prior planned t names e = let both = parts_of_replace planned t [] names e in inl (refl, both.0, sym both.1)
tainted_replace schema ignored false prior planned t names e = inr (refl, e)

pub replaces_caused : ReplacesHaveACause
replaces_caused schema ignored r planned t names e =
    let kept = kept_object schema ignored r.attributes planned in
    elim (tainted_replace schema ignored r.tainted r.attributes planned t names e) as (λ w. (t ≡ planned) × (((r.tainted ≡ true) × (names ≡ [])) ⊎ IsForced schema ignored r planned names)) [
      | inl w ↦ (sym w.1, inl (w.0, w.2))
      | inr w ↦
          let says = beside_replace schema planned kept t (differing r.attributes kept) names w.1 in (
            sym says.0,
            inr (record {
              untainted = w.0;
              differs = sym says.1;
              some = says.2;
              all_force = ap (list_all (forces_new schema)) (sym says.1) ∙ left_pass (forces_new schema) (differing r.attributes kept);
            }),
          )
    ]

prevented_is : (b : Bool) (d : DecisionView) (t : Tree) (names : List (List ℕ)) → unless_prevented b d ≡ Ok (replace t names) → b ≡ false
prevented_is false d t names e = refl
prevented_is true nothing t names e = absurd (cc)
prevented_is true (create u) t names e = absurd (cc)
prevented_is true (update u xs) t names e = absurd (cc)
prevented_is true (replace u xs) t names e = absurd (cc)

pub fit_is : (fault : Option PriorFaultView) (r : Result DecisionView DecisionFaultView) (d : DecisionView) → unless_unfit fault r ≡ Ok d → r ≡ Ok d
fit_is None r d e = e
fit_is (Some fault) r d e = absurd (cc)

pub prevented_stay : PreventedStay
prevented_stay schema lifecycle records planned t names e =
    heeded (with_ignored_changes (ignored_fault schema lifecycle.ignore_changes) planned) (fit_is (first_unfit schema records) _ (replace t names) e)
  where
    heeded : (planned : Result Tree InstanceFaultView) → decided schema lifecycle (current records) planned ≡ Ok (replace t names) → lifecycle.prevent_destroy ≡ false
    heeded (Ok p) h = prevented_is lifecycle.prevent_destroy (change schema lifecycle.ignore_changes (current records) p) t names h
    heeded (Err why) h = absurd (cc)
