-- Resources that are looked at alone.
use Rattle.std.proofs.Common.{◌≡◌, ◌<◌, ◌≤◌, ◌+◌, ℕ, Bool, true, false, not, List, [], length, set, take, Contains, Option, None, Some, is_some, refl, sym, ap, subst, ◌∙◌, arith, inl, inr}
use Rattle.std.proofs.lemmas.Bool.{cases_eq}
use Rattle.std.proofs.lemmas.List.{length-set, get_or_default, take_all}
use Rattle.std.proofs.lemmas.List.Folds.{list_all_at}
use Rattle.std.specs.Prelude.{slice_index, MatchBool}
use Rattle.std.specs.List.{AllByRecursion, list_all}
use Rattle.tf_config_address.specs.ObjectId.{InstanceKeyView}
use Rattle.tf_config_data.specs.Names.{NameView, Meant, a_local, a_block, meant_at, directly_before}
use Rattle.tf_graph.proofs.Edges.{all_by_contained}
use Rattle.tf_graph.proofs.Solving.{all_by_at}
use Rattle.tf_graph.specs.Solutions.{Ranked}
use Rattle.tf_value_data.specs.Tree.{Tree, Entries}
use Rattle.tf_expand_keys.proofs.Keeping.{earlier, stand_other, stand_same}
use Rattle.tf_expand_keys.specs.InstanceKeys.{InstanceKeysView}
use Rattle.tf_expand_keys.specs.Stages.{applying}
use Rattle.tf_expand_keys.specs.Resolved.{environment, stands_at}
use Rattle.tf_expand_keys.specs.Views.{resolved_of, resolved_names_of}
use Rattle.tf_expand_keys.specs.declared.resolved.Resolved.{Resolved}
use Rattle.tf_walk_names.specs.Resolving.{AreResolvedSoFar, is_resource}
use Rattle.tf_walk_names.specs.Wanted.{is_local}
use Rattle.tf_walk_names.proofs.Answering.{meant_there, next_is, stands_there}

-- an element of a list is there
pub element : (xs : List ℕ) (i p : ℕ) → i < length xs → p ≡ slice_index xs i → Contains xs p
element xs i p h is = (i, h, get_or_default xs i p 0 h ∙ sym is)

-- each element of a list passes where all do
pub all_at : (test : ℕ → Bool) (xs : List ℕ) (i : ℕ) → i < length xs → list_all test xs ≡ true → test (slice_index xs i) ≡ true
all_at test xs i h all = by_test (test (slice_index xs i)) refl
  where
    by_test : (yes : Bool) → test (slice_index xs i) ≡ yes → test (slice_index xs i) ≡ true
    by_test true e = e
    by_test false e = let none : list_all test xs ≡ false = list_all_at test xs i 0 h e in absurd (cc)

-- the elements up to one are below a bound
abbrev pub AreBelow : List ℕ → ℕ → ℕ → Type 0
AreBelow xs i past = (k : ℕ) → k < i → slice_index xs k < past

pub below_more : (xs : List ℕ) (i p past now : ℕ) → p ≡ slice_index xs i → p < now → past ≤ now → AreBelow xs i past → AreBelow xs (i + 1) now
below_more xs i p past now is h more before = λ k due. elim (cases_eq k i) [
  | inl here ↦ let there : slice_index xs k ≡ p = ap (slice_index xs) here ∙ sym is in omega (arith, there, h)
  | inr other ↦ let low : slice_index xs k < past = before k (omega (arith, due)) in omega (arith, low, more)
]

pub below_all : (xs : List ℕ) (i past : ℕ) → length xs ≤ i → AreBelow xs i past → AllByRecursion (λ n. n < past) xs
below_all xs i past whole before = all_by_contained (λ n. n < past) xs (λ n c.
    let read : slice_index xs c.0 ≡ n = sym (get_or_default xs c.0 n 0 c.1) ∙ c.2 in
    let low : slice_index xs c.0 < past = before c.0 (omega (arith, c.1, whole)) in
    omega (arith, read, low))

-- what is no local is a resource
no_local : (m : Option Meant) → is_resource m ≡ true → is_local m ≡ true → ⊥
no_local None h l = absurd (cc)
no_local (Some (a_local e)) h l = absurd (cc)
no_local (Some (a_block b)) h l = absurd (cc)

missing_not : (b : Bool) → true ≡ not b → b ≡ false
missing_not false h = refl
missing_not true h = absurd (cc)

there_not : (b : Bool) → false ≡ not b → b ≡ true
there_not true h = refl
there_not false h = absurd (cc)

module _ (variables : Entries) (names : List NameView) (shapes : ℕ → InstanceKeysView) (objects : ℕ → InstanceKeyView → Tree) (resources : List ℕ) where
  -- what stands once the first of some resources are added
  pub record AreAdded (i : ℕ) (kept : List Resolved) : Type 0 where
    pub room : AllByRecursion (λ n. n < length kept) resources
    pub answered : AreResolvedSoFar variables names shapes objects (resolved_names_of kept)
    pub there : (n : ℕ) → Contains (take i resources) n → is_some (resolved_names_of kept n) ≡ true

  pub added_start : (kept : List Resolved) → AllByRecursion (λ n. n < length kept) resources → AreResolvedSoFar variables names shapes objects (resolved_names_of kept) → AreAdded 0 kept
  added_start kept room answered = record {
    room = room;
    answered = answered;
    there = λ n held. let front : held.0 < length {A = ℕ} [] = held.1 in absurd (omega (arith, front));
  }

  -- one resource more
  pub added_more : (i p : ℕ) (missing : Bool) (kept now : List Resolved) → Ranked (directly_before names) → AllByRecursion (λ n. n < length names) resources
      → list_all (λ n. is_resource (meant_at names n)) resources ≡ true → i < length resources → p ≡ slice_index resources i → missing ≡ not (is_some (resolved_names_of kept p))
      → MatchBool missing ((s : Resolved) × (now ≡ set kept p s) × (resolved_of s ≡ stands_at (applying shapes objects) p (meant_at names p) (environment variables names (resolved_names_of kept)))) (now ≡ kept)
      → AreAdded i kept → AreAdded (i + 1) now
  added_more i p true kept now ranked within all h is missing (s, changed, stood) k =
      let here : Contains resources p = element resources i p h is in
      let below : p < length names = all_by_at (λ n. n < length names) resources p within here in
      let inside : p < length kept = all_by_at (λ n. n < length kept) resources p k.room here in
      let a_resource : is_resource (meant_at names p) ≡ true = ap (λ n. is_resource (meant_at names n)) is ∙ all_at (λ n. is_resource (meant_at names n)) resources i h all in
      let here_is : resolved_names_of (set kept p s) p ≡ stands_at (applying shapes objects) p (meant_at names p) (environment variables names (resolved_names_of kept)) = stand_same kept p s inside ∙ stood in
      rw changed (record {
        room = subst (λ m. AllByRecursion (λ n. n < m) resources) (sym (length-set kept p s)) k.room;
        answered = λ resolved_names solves n there. elim (cases_eq n p) [
          | inl same ↦
              ap (resolved_names_of (set kept p s)) same ∙ here_is
              ∙ next_is shapes objects variables names ranked (resolved_names_of kept) resolved_names solves p below (λ local. absurd (no_local (meant_at names p) a_resource local)) ∙ ap resolved_names (sym same)
          | inr other ↦
              stand_other kept p n s other ∙ k.answered resolved_names solves n (ap is_some (sym (stand_other kept p n s other)) ∙ there)
        ];
        there = λ n held. elim (cases_eq n p) [
          | inl same ↦
              ap (λ a. is_some (resolved_names_of (set kept p s) a)) same ∙ ap is_some here_is
              ∙ stands_there shapes objects p (meant_at names p) (environment variables names (resolved_names_of kept)) (meant_there names p below)
          | inr other ↦
              ap is_some (stand_other kept p n s other) ∙ k.there n (earlier resources i p n h is other held)
        ];
      })
  added_more i p false kept now ranked within all h is missing same k = rw same (record {
    room = k.room;
    answered = k.answered;
    there = λ n held. elim (cases_eq n p) [
      | inl here ↦ ap (λ a. is_some (resolved_names_of kept a)) here ∙ there_not (is_some (resolved_names_of kept p)) missing
      | inr other ↦ k.there n (earlier resources i p n h is other held)
    ];
  })

  -- all resources are added
  pub added_all : (i : ℕ) (kept : List Resolved) → length resources ≤ i → AreAdded i kept → AllByRecursion (λ n. is_some (resolved_names_of kept n) ≡ true) resources
  added_all i kept whole k =
      all_by_contained (λ n. is_some (resolved_names_of kept n) ≡ true) resources (λ n c. k.there n (subst (λ xs. Contains xs n) (sym (take_all i resources whole)) c))
