-- The names that are needed, and what they stand for.
use Rattle.std.proofs.Common.{◌≡◌, ◌<◌, ◌≤◌, ℕ, zero, suc, ◌+◌, Bool, true, false, List, [], ◌∷◌, ◌++◌, length, None, Result, Ok, Err, IfOk, Vec, Global, refl, sym, ap, ◌∙◌, arith, inl, inr}
use Rattle.std.proofs.lemmas.Bool.{cases_eq, cases_lt, false_from_ne_true}
use Rattle.std.proofs.lemmas.List.{get_or_append_left, get_or_past, get_or_push}
use Rattle.std.specs.declared.alloc.AllocError.{AllocError}
use Rattle.std.specs.Prelude.{◌↔◌}
use Rattle.tf_config_data.specs.Names.{NameView, meant_at, directly_before}
use Rattle.tf_expand_keys.specs.Kept.{AreClosed, AreResolved, OnlyWanted}
use Rattle.tf_expand_keys.specs.Stages.{expansion}
use Rattle.tf_expand_keys.specs.Resolved.{ResolvedView}
use Rattle.tf_expand_keys.specs.Needed.{is_resource, IsNeeded, IsNeededBy}
use Rattle.tf_expand_keys.specs.Told.{AreNeededNamesResolved}
use Rattle.tf_graph.proofs.Edges.{all_by_contained}
use Rattle.tf_graph.specs.NodeSet.{has}
use Rattle.tf_config_names.proofs.Edging.{before-past, place_of-below}
use Rattle.tf_config_names.specs.Needs.{order_in, needs_in, IsAcyclic, IsDependence}
use Rattle.tf_config_names.specs.declared.dependence.Dependence.{Dependence}
use Rattle.tf_value_data.specs.Tree.{Entries}

-- what is needed is a name
pub needed_below : (names : List NameView) (d : Dependence) → IsDependence names d → (a n : ℕ) → needs_in d a n ≡ true → n < length names
needed_below names d is a n needs = let name = is.named a n needs in place_of-below names name.0 n name.1

-- the places that are marked are those of the names that resources need
abbrev pub AreMarked : List NameView → Dependence → List Bool → Type 0
AreMarked names d wanted = (n : ℕ) → n < length names → (has wanted n ≡ true) ↔ IsNeeded names d n

needed-wanted : (names : List NameView) (d : Dependence) (wanted : List Bool) → IsDependence names d → AreMarked names d wanted → (n : ℕ) → IsNeeded names d n → has wanted n ≡ true
needed-wanted names d wanted is marked n needed = (marked n (needed_below names d is needed.name n needed.needs)).1 needed

-- with each of them all that it refers to is marked
pub needed_closed : (names : List NameView) (d : Dependence) (wanted : List Bool) → IsDependence names d → AreMarked names d wanted → AreClosed names wanted
needed_closed names d wanted is marked n wants = elim (cases_lt n (length names)) [
  | inl inside ↦
      let needed : IsNeeded names d n = (marked n inside).0 wants in
      all_by_contained (λ a. has wanted a ≡ true) (directly_before names n)
      (λ a held. needed-wanted names d wanted is marked a (record { name = needed.name; is_one = needed.is_one; needs = is.closed needed.name n a needed.needs held }))
  | inr past ↦ rw (before-past names n past) tt
]

-- what is kept of the names that resources need, and of no others
pub needed_kept : (variables : Entries) (names : List NameView) (d : Dependence) (wanted : List Bool) (kept : ℕ → ResolvedView) → IsDependence names d → IsAcyclic d → AreMarked names d wanted
    → AreResolved expansion variables names (order_in d) wanted kept → OnlyWanted wanted kept → AreNeededNamesResolved variables names d kept
needed_kept variables names d wanted kept is acyclic marked have only = record {
  needed = λ resolved_names solves n needed. have resolved_names solves n (is.whole acyclic n (needed_below names d is needed.name n needed.needs)) (needed-wanted names d wanted is marked n needed);
  only = λ n h none. only n (false_from_ne_true (has wanted n) (λ yes. none ((marked n h).0 yes)));
}

meant_past : (names : List NameView) (n : ℕ) → length names ≤ n → meant_at names n ≡ None
meant_past [] n h = refl
meant_past (name ∷ names) zero h = absurd (omega arith)
meant_past (name ∷ names) (suc n) h = meant_past names n (omega arith)

-- where each place is marked for a resource, what is no place is marked as little as there is a resource
pub all_marked : (names : List NameView) (found : List Bool) → length found ≡ length names → ((n : ℕ) → n < length names → has found n ≡ is_resource (meant_at names n)) → (n : ℕ)
    → has found n ≡ is_resource (meant_at names n)
all_marked names found long each n = elim (cases_lt n (length names)) [
  | inl inside ↦ each n inside
  | inr past ↦ get_or_past found n false (omega (arith, past, long)) ∙ sym (ap is_resource (meant_past names n past))
]

-- one mark more
pub marked_more : (P : ℕ → Bool → Type 0) (count : ℕ) (found now : List Bool) (b : Bool) → now ≡ found ++ b ∷ [] → length found ≡ count → ((n : ℕ) → n < count → P n (has found n)) → P count b
    → (n : ℕ) → n < count + 1 → P n (has now n)
marked_more P count found now b is long each last n h = rw is (elim (cases_eq n count) [
  | inl here ↦ rw (get_or_push found b false n (long ∙ sym here), here) last
  | inr other ↦ rw (get_or_append_left found (b ∷ []) false n (omega (arith, h, long, other))) (each n (omega (arith, h, other)))
])

-- what some names need, others do that are the same
pub needed_same : (P Q : ℕ → Type 0) (d : Dependence) (n : ℕ) → ((a : ℕ) → P a → Q a) → IsNeededBy P d n → IsNeededBy Q d n
needed_same P Q d n f needed = record { name = needed.name; is_one = f needed.name needed.is_one; needs = needed.needs }

-- what the names that are marked need, where these are the resources
pub by_resources : (names : List NameView) (d : Dependence) (found slice : List Bool) → IsDependence names d → slice ≡ found → ((n : ℕ) → has found n ≡ is_resource (meant_at names n))
    → (result : Result (Vec Bool Global) AllocError) → IfOk result (λ needed. (n : ℕ) → n < d.graph.nodes → (has needed.items n ≡ true) ↔ IsNeededBy (λ a. has slice a ≡ true) d n)
    → IfOk result (λ needed. (n : ℕ) → n < length names → (has needed.items n ≡ true) ↔ IsNeeded names d n)
by_resources names d found slice is same marked (Ok needed) each = λ n h.
    let there = each n (omega (arith, h, is.count)) in
    let is_one : (a : ℕ) → has slice a ≡ is_resource (meant_at names a) = rw same marked in (
      λ wants. needed_same _ (λ a. is_resource (meant_at names a) ≡ true) d n (λ a e. sym (is_one a) ∙ e) (there.0 wants),
      λ needs. there.1 (needed_same _ (λ a. has slice a ≡ true) d n (λ a e. is_one a ∙ e) needs),
    )
by_resources names d found slice is same marked (Err e) each = each
