-- The names that a plan looks at are resolved, and refer only to such names.
use Rattle.std.proofs.Common.{◌≡◌, ◌<◌, ◌||◌, ℕ, Bool, true, false, List, length, Result, Ok, Err, IfOk, Contains, refl, sym, ap, ◌∙◌, inl, inr}
use Rattle.std.proofs.lemmas.Bool.{cases_lt}
use Rattle.std.specs.declared.alloc.AllocError.{AllocError}
use Rattle.std.specs.Prelude.{◌↔◌, ◌⊎◌}
use Rattle.tf_config_data.specs.Names.{NameView, directly_before, places}
use Rattle.tf_plan_decision.specs.Rows.{NeedsAreWanted}
use Rattle.tf_expand_keys.proofs.Places.{all_places}
use Rattle.tf_expand_keys.specs.Kept.{AreClosed, AreResolved}
use Rattle.tf_expand_keys.specs.Resolved.{ResolvedView, ResourceValuesView, AreResolvedNames}
use Rattle.tf_expand_keys.proofs.Needing.{needed_below, needed_same}
use Rattle.tf_expand_keys.specs.Needed.{IsNeeded, IsNeededBy, is_resource}
use Rattle.tf_graph.proofs.Edges.{all_by_contained}
use Rattle.tf_graph.proofs.Solving.{all_by_at}
use Rattle.tf_graph.specs.NodeSet.{has}
use Rattle.tf_config_names.proofs.Edging.{before-past}
use Rattle.tf_config_names.specs.Needs.{order_in, IsAcyclic, IsDependence}
use Rattle.tf_config_names.specs.declared.dependence.Dependence.{Dependence}
use Rattle.tf_plan_planner.specs.Wanted.{IsNamed, IsWanted}
use Rattle.tf_expr_syntax.specs.ExprNames.{named_below}
use Rattle.tf_expr_syntax.specs.ExprTree as expr
use Rattle.tf_value_data.specs.Tree.{Entries}

-- what is marked where nothing was before
pub only_new : (before now : List Bool) (places : List ℕ) → ((n : ℕ) → has before n ≡ false) → ((n : ℕ) → (has now n ≡ true) ↔ ((has before n ≡ true) ⊎ Contains places n))
    → (n : ℕ) → (has now n ≡ true) ↔ Contains places n
only_new before now places none marked n = (
  λ h. elim ((marked n).0 h) [
    | inl was ↦ let not : has before n ≡ false = none n in absurd (cc)
    | inr c ↦ c
  ],
  λ c. (marked n).1 (inr c),
)

or_either : (a b c : Bool) → a || b || c ≡ true → (a ≡ true) ⊎ (b ≡ true) ⊎ (c ≡ true)
or_either true b c h = inl refl
or_either false true c h = inr (inl refl)
or_either false false true h = inr (inr refl)
or_either false false false h = absurd (cc)

or_first : (a b c : Bool) → a ≡ true → a || b || c ≡ true
or_first true b c h = refl
or_first false b c h = absurd (cc)

or_second : (a b c : Bool) → b ≡ true → a || b || c ≡ true
or_second true b c h = refl
or_second false true c h = refl
or_second false false c h = absurd (cc)

or_third : (a b c : Bool) → c ≡ true → a || b || c ≡ true
or_third true b c h = refl
or_third false true c h = refl
or_third false false true h = refl
or_third false false false h = absurd (cc)

-- the places that are marked are those of the wanted names
abbrev pub AreMarked : List NameView → Dependence → expr.Entries → List Bool → Type 0
AreMarked names d outputs wanted = (n : ℕ) → n < length names → (has wanted n ≡ true) ↔ IsWanted names d outputs n

-- they are, where they are marked for one of the three reasons
pub wanted_by_either : (names : List NameView) (d : Dependence) (outputs : expr.Entries) (resources named through : List Bool) (wanted : List Bool)
    → ((n : ℕ) → n < length names → (has resources n ≡ true) ↔ IsNeeded names d n) → ((n : ℕ) → (has named n ≡ true) ↔ IsNamed names outputs n)
    → ((n : ℕ) → n < length names → (has through n ≡ true) ↔ IsNeededBy (λ a. has named a ≡ true) d n)
    → ((n : ℕ) → n < length names → has wanted n ≡ has resources n || has named n || has through n) → AreMarked names d outputs wanted
wanted_by_either names d outputs resources named through wanted by_resources by_outputs by_named each n h = (
  λ wants. elim (or_either (has resources n) (has named n) (has through n) (sym (each n h) ∙ wants)) [
    | inl r ↦ inl ((by_resources n h).0 r)
    | inr other ↦
        elim other [
          | inl o ↦ inr (inl ((by_outputs n).0 o))
          | inr t ↦ inr (inr (needed_same (λ a. has named a ≡ true) (IsNamed names outputs) d n (λ a. (by_outputs a).0) ((by_named n h).0 t)))
        ]
  ],
  λ is. elim is [
    | inl r ↦ each n h ∙ or_first (has resources n) (has named n) (has through n) ((by_resources n h).1 r)
    | inr other ↦
        elim other [
          | inl o ↦ each n h ∙ or_second (has resources n) (has named n) (has through n) ((by_outputs n).1 o)
          | inr t ↦ each n h ∙ or_third (has resources n) (has named n) (has through n) ((by_named n h).1 (needed_same (IsNamed names outputs) (λ a. has named a ≡ true) d n (λ a. (by_outputs a).1) t))
        ]
  ],
)

module _ (names : List NameView) (d : Dependence) (outputs : expr.Entries) (is : IsDependence names d) where
  wanted_below : (n : ℕ) → IsWanted names d outputs n → n < length names
  wanted_below n wants = elim wants [
    | inl r ↦ needed_below names d is r.name n r.needs
    | inr other ↦
        elim other [
          | inl o ↦ all_by_at (λ a. a < length names) (places names (named_below outputs)) n (all_places (λ a. a < length names) names (named_below outputs) (λ a h. h)) o
          | inr t ↦ needed_below names d is t.name n t.needs
        ]
  ]

  -- what a wanted name refers to is wanted
  wanted_before : (n a : ℕ) → IsWanted names d outputs n → Contains (directly_before names n) a → IsWanted names d outputs a
  wanted_before n a wants held = elim wants [
    | inl r ↦ inl (record { name = r.name; is_one = r.is_one; needs = is.closed r.name n a r.needs held })
    | inr other ↦
        elim other [
          | inl o ↦ inr (inr (record { name = n; is_one = o; needs = is.direct n a held }))
          | inr t ↦ inr (inr (record { name = t.name; is_one = t.is_one; needs = is.closed t.name n a t.needs held }))
        ]
  ]

  pub wanted_closed : (wanted : List Bool) → AreMarked names d outputs wanted → AreClosed names wanted
  wanted_closed wanted marked n wants = elim (cases_lt n (length names)) [
    | inl inside ↦
        all_by_contained (λ a. has wanted a ≡ true) (directly_before names n)
        (λ a held. let also : IsWanted names d outputs a = wanted_before n a ((marked n inside).0 wants) held in (marked a (wanted_below a also)).1 also)
    | inr past ↦ rw (before-past names n past) tt
  ]

  -- all that a resource refers to is wanted
  pub wanted_needs : (wanted : List Bool) → AreMarked names d outputs wanted → NeedsAreWanted names wanted
  wanted_needs wanted marked n block here =
      all_by_contained (λ a. has wanted a ≡ true) (directly_before names n)
      (λ a held. let also : IsWanted names d outputs a = inl (record { name = n; is_one = ap is_resource here; needs = is.direct n a held }) in (marked a (wanted_below a also)).1 also)

  -- what is kept of wanted names
  pub wanted_stand : (stage : ResourceValuesView) (variables : Entries) (wanted : List Bool) {A : Type 0} (kept_in : A → ℕ → ResolvedView) (result : Result A AllocError) → IsAcyclic d → AreMarked names d outputs wanted
      → IfOk result (λ r. AreResolved stage variables names (order_in d) wanted (kept_in r))
      → IfOk result (λ r. (resolved_names : ℕ → ResolvedView) → AreResolvedNames stage variables names resolved_names → (n : ℕ) → IsWanted names d outputs n → kept_in r n ≡ resolved_names n)
  wanted_stand stage variables wanted kept_in (Ok r) acyclic marked have = λ resolved_names solves n wants.
      have resolved_names solves n (is.whole acyclic n (wanted_below n wants)) ((marked n (wanted_below n wants)).1 wants)
  wanted_stand stage variables wanted kept_in (Err e) acyclic marked have = have
