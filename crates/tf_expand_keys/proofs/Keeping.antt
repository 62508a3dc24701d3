-- The resolved names, kept one after another.
use Rattle.std.proofs.Common.{◌≡◌, ◌≢◌, ◌<◌, ◌≤◌, ◌+◌, ℕ, zero, suc, Bool, true, false, if◌then◌else◌, List, [], ◌∷◌, ◌++◌, map, length, get_or, set, take, None, refl, sym, ap, ◌∙◌, arith, add-one, inl, inr}
use Rattle.std.proofs.lemmas.Bool.{cases_eq}
use Rattle.std.proofs.lemmas.List.{get_or-set_same, get_or-set_other, map-set, length-map, length-set, length_push, take_all}
use Rattle.std.proofs.lemmas.List.Elements.{Contains-push_cases}
use Rattle.std.proofs.Math.Seq.{take-suc}
use Rattle.std.specs.Prelude.{Contains, slice_index}
use Rattle.std.specs.List.{AllByRecursion}
use Rattle.tf_config_data.specs.Names.{NameView, meant_at, directly_before}
use Rattle.tf_graph.specs.NodeSet.{has}
use Rattle.tf_graph.specs.Order.{IsInOrder}
use Rattle.tf_graph.specs.Solutions.{seen_by}
use Rattle.tf_graph.proofs.Solving.{seen_by-same, all_by_both}
use Rattle.tf_value_data.specs.Tree.{Entries}
use Rattle.tf_expr_eval.proofs.Locality.{expressions_local}
use Rattle.tf_expand_keys.specs.Kept.{AreClosed, AreResolved, OnlyWanted}
use Rattle.tf_expand_keys.specs.StandingLaws.{IsLocal}
use Rattle.tf_expand_keys.specs.Resolved.{ResolvedView, ResourceValuesView, stands_at, where_all, all_stand, environment, AreResolvedNames}
use Rattle.tf_expand_keys.specs.Views.{resolved_of, resolved_names_of}
use Rattle.tf_expand_keys.specs.declared.resolved.Resolved.{Resolved}
use Rattle.tf_expand_keys.specs.declared.resolved.Resolved.TheVariants.{Nothing}
use Rattle.tf_expand_keys.proofs.Locals.{sees, all_seen}

-- places at which nothing stands
pub record AreNothing (count : ℕ) (kept : List Resolved) : Type 0 where
  pub long : length kept ≡ count
  pub none : (n : ℕ) → resolved_names_of kept n ≡ None

none_more : (kept : List Resolved) (n : ℕ) → resolved_names_of kept n ≡ None → resolved_names_of (kept ++ Nothing ∷ []) n ≡ None
none_more [] zero h = refl
none_more [] (suc n) h = refl
none_more (k ∷ kept) zero h = h
none_more (k ∷ kept) (suc n) h = none_more kept n h

pub nothing_more : (count : ℕ) (kept now : List Resolved) → now ≡ kept ++ Nothing ∷ [] → AreNothing count kept → AreNothing (count + 1) now
nothing_more count kept now is h = rw is (record { long = length_push kept Nothing ∙ ap (λ n. n + 1) h.long; none = λ n. none_more kept n (h.none n) })

-- what is kept once the names before a place of the order are done
pub record AreKept (stage : ResourceValuesView) (variables : Entries) (names : List NameView) (order : List ℕ) (wanted : List Bool) (i : ℕ) (kept : List Resolved) : Type 0 where
  pub long : length kept ≡ length names
  pub have : AreResolved stage variables names (take i order) wanted (resolved_names_of kept)
  pub only : OnlyWanted wanted (resolved_names_of kept)

pub kept_start : (stage : ResourceValuesView) (variables : Entries) (names : List NameView) (order : List ℕ) (wanted : List Bool) (kept : List Resolved)
    → length kept ≡ length names → ((n : ℕ) → resolved_names_of kept n ≡ None) → AreKept stage variables names order wanted 0 kept
kept_start stage variables names order wanted kept long none = record {
  long = long;
  have = λ resolved_names solves n held is. let inside : held.0 < length {A = ℕ} [] = held.1 in absurd (omega arith);
  only = λ n is. none n;
}

-- what the name at a place stands for, by what is kept
abbrev pub next_standing : ResourceValuesView → Entries → List NameView → (ℕ → ResolvedView) → ℕ → ResolvedView
next_standing stage variables names kept p =
    where_all (all_stand (seen_by kept (directly_before names p))) (stands_at stage p (meant_at names p) (environment variables names kept))

-- where what is kept of all that stands directly before a name is right, so is what it stands for
pub next_is : (stage : ResourceValuesView) (variables : Entries) (names : List NameView) (kept resolved_names : ℕ → ResolvedView) (p : ℕ) → IsLocal stage → AreResolvedNames stage variables names resolved_names → p < length names
    → AllByRecursion (λ a. kept a ≡ resolved_names a) (directly_before names p) → next_standing stage variables names kept p ≡ resolved_names p
next_is stage variables names kept resolved_names p local solves h same =
    rw (seen_by-same kept resolved_names (directly_before names p) same, sees expressions_local stage variables names kept resolved_names local p same)
    (sym (all_seen expressions_local stage variables names resolved_names local solves p h))

pub stand_same : (kept : List Resolved) (p : ℕ) (s : Resolved) → p < length kept → resolved_names_of (set kept p s) p ≡ resolved_of s
stand_same kept p s h = rw (map-set resolved_of kept p s) (get_or-set_same (map resolved_of kept) p (resolved_of s) None (rw (length-map kept resolved_of) h))

pub stand_other : (kept : List Resolved) (p n : ℕ) (s : Resolved) → n ≢ p → resolved_names_of (set kept p s) n ≡ resolved_names_of kept n
stand_other kept p n s h = rw (map-set resolved_of kept p s) (get_or-set_other (map resolved_of kept) p n (resolved_of s) None h)

-- a member of a longer front is one of the shorter one, or the last
pub earlier : (order : List ℕ) (i p n : ℕ) → i < length order → p ≡ slice_index order i → n ≢ p → Contains (take (i + 1) order) n → Contains (take i order) n
earlier order i p n h is other held =
    elim (Contains-push_cases (take i order) p n (rw (add-one, take-suc order i 0 h, ← is) at held)) [
      | inl before ↦ before
      | inr last ↦ absurd (other (sym last))
    ]

-- one name more
pub kept_more : (stage : ResourceValuesView) (variables : Entries) (names : List NameView) (order : List ℕ) (wanted : List Bool) (i p : ℕ) (kept now : List Resolved) (s : Resolved)
    → IsLocal stage → IsInOrder (directly_before names) order → AreClosed names wanted → i < length order → p ≡ slice_index order i → p < length names → now ≡ set kept p s
    → resolved_of s ≡ (if has wanted p then next_standing stage variables names (resolved_names_of kept) p else None)
    → AreKept stage variables names order wanted i kept → AreKept stage variables names order wanted (i + 1) now
kept_more stage variables names order wanted i p kept now s local ordered closed h is inside changed stood inv = rw changed (record {
  long = length-set kept p s ∙ inv.long;
  have = λ resolved_names solves n held wants. elim (cases_eq n p) [
    | inl here ↦
        let wanted_here : has wanted p ≡ true = rw here at wants in
        let before : AllByRecursion (λ a. resolved_names_of kept a ≡ resolved_names a) (directly_before names p) =
        all_by_both (λ a. Contains (take i order) a) (λ a. has wanted a ≡ true) (λ a. resolved_names_of kept a ≡ resolved_names a) (directly_before names p)
        (inv.have resolved_names solves) (rw is (ordered.after i h)) (closed p wanted_here) in
        rw (here, stand_same kept p s (omega (arith, inv.long)), stood, wanted_here)
        (next_is stage variables names (resolved_names_of kept) resolved_names p local solves inside before)
    | inr other ↦ stand_other kept p n s other ∙ inv.have resolved_names solves n (earlier order i p n h is other held) wants
  ];
  only = λ n unwanted. elim (cases_eq n p) [
    | inl here ↦
        let unwanted_here : has wanted p ≡ false = rw here at unwanted in
        rw (here, stand_same kept p s (omega (arith, inv.long)), stood, unwanted_here) refl
    | inr other ↦ stand_other kept p n s other ∙ inv.only n unwanted
  ];
})

-- what was worked out of what is kept
pub stood_is : (stage : ResourceValuesView) (variables : Entries) (names : List NameView) (wanted : List Bool) (p : ℕ) (is_wanted : Bool) (xs ys : List Resolved) (s : ResolvedView)
    → s ≡ (if is_wanted then next_standing stage variables names (resolved_names_of xs) p else None) → is_wanted ≡ has wanted p → xs ≡ ys
    → s ≡ (if has wanted p then next_standing stage variables names (resolved_names_of ys) p else None)
stood_is stage variables names wanted p is_wanted xs ys s h e f = rw (h, e, f) refl

-- all names are done
pub kept_all : (stage : ResourceValuesView) (variables : Entries) (names : List NameView) (order : List ℕ) (wanted : List Bool) (i : ℕ) (kept : List Resolved) → length order ≤ i
    → AreKept stage variables names order wanted i kept → AreResolved stage variables names order wanted (resolved_names_of kept)
kept_all stage variables names order wanted i kept h inv resolved_names solves n held wants =
    inv.have resolved_names solves n (rw (take_all i order h) held) wants
