-- What names stand for, worked out once for many that name them.
use Rattle.std.proofs.Common.{◌≡◌, ◌<◌, ◌≤◌, ◌+◌, ◌&&◌, ℕ, zero, suc, Bool, true, false, not, List, [], ◌∷◌, ◌++◌, length, set, take, Contains, is_some, Result, Ok, Err, refl, sym, ap, subst, ◌∙◌, arith, inl, inr}
use Rattle.std.proofs.lemmas.Bool.{cases_eq}
use Rattle.std.proofs.lemmas.List.{length-set, take_all}
use Rattle.std.specs.Prelude.{slice_index, MatchBool, OnOk}
use Rattle.std.specs.List.{AllByRecursion}
use Rattle.tf_config_address.specs.ObjectId.{InstanceKeyView}
use Rattle.tf_config_data.specs.Names.{NameView, meant_at, directly_before}
use Rattle.tf_graph.proofs.Edges.{all_by_contained}
use Rattle.tf_graph.proofs.Solving.{all_by_at, all_by_both, all_by_weaker}
use Rattle.tf_graph.specs.NodeSet.{has}
use Rattle.tf_graph.specs.Order.{IsInOrder}
use Rattle.tf_graph.specs.Solutions.{Ranked, seen_by}
use Rattle.tf_value_data.specs.Tree.{Tree, Entries}
use Rattle.tf_expand_keys.proofs.Keeping.{earlier, stand_other, stand_same}
use Rattle.tf_expand_keys.specs.InstanceKeys.{InstanceKeysView}
use Rattle.tf_expand_keys.specs.Stages.{applying}
use Rattle.tf_expand_keys.specs.Resolved.{ResolvedView, AreResolvedNames, all_stand, environment, stands_at}
use Rattle.tf_expand_keys.specs.Views.{resolved_of, resolved_names_of}
use Rattle.tf_expand_keys.specs.declared.resolved.Resolved.{Resolved}
use Rattle.tf_expand_keys.specs.declared.resolved.Resolved.TheVariants.{Nothing}
use Rattle.tf_walk_names.proofs.Answering.{meant_there, next_is, stands_there}
use Rattle.tf_walk_names.specs.Resolving.{AreResolvedSoFar}
use Rattle.tf_walk_names.specs.Wanted.{AreClosedForLocals, IsWanted, itself, is_local}

-- a place more at which nothing stands
pub nothing_added : (kept : List Resolved) (n : ℕ) → resolved_names_of (kept ++ Nothing ∷ []) n ≡ resolved_names_of kept n
nothing_added [] zero = refl
nothing_added [] (suc n) = refl
nothing_added (k ∷ kept) zero = refl
nothing_added (k ∷ kept) (suc n) = nothing_added kept n

pub one_longer : (kept : List Resolved) (s : Resolved) → length (kept ++ s ∷ []) ≡ length kept + 1
one_longer [] s = refl
one_longer (k ∷ kept) s = let rest : length (kept ++ s ∷ []) ≡ length kept + 1 = one_longer kept s in omega arith

-- all of it stands
pub each_stands : (resolved_names : ℕ → ResolvedView) (ns : List ℕ) → all_stand (seen_by resolved_names ns) ≡ true → AllByRecursion (λ n. is_some (resolved_names n) ≡ true) ns
each_stands resolved_names [] h = tt
each_stands resolved_names (n ∷ ns) h = by_test (each_stands resolved_names ns) (is_some (resolved_names n)) refl h
  where
    by_test : (all_stand (seen_by resolved_names ns) ≡ true → AllByRecursion (λ a. is_some (resolved_names a) ≡ true) ns) → (b : Bool) → is_some (resolved_names n) ≡ b → b && all_stand (seen_by resolved_names ns) ≡ true
        → AllByRecursion (λ a. is_some (resolved_names a) ≡ true) (n ∷ ns)
    by_test again true is rest = (is, again rest)
    by_test again false is rest = absurd (cc)

wanted_too : (a b : Bool) → true ≡ a && b → a ≡ true
wanted_too true b h = refl
wanted_too false b h = absurd (cc)

there_already : (a b : Bool) → false ≡ a && not b → a ≡ true → b ≡ true
there_already true true h e = refl
there_already true false h e = absurd (cc)
there_already false b h e = absurd (cc)

module _ (variables : Entries) (names : List NameView) (shapes : ℕ → InstanceKeysView) (objects : ℕ → InstanceKeyView → Tree) where
  -- nothing stands yet
  pub none_answered : (kept : List Resolved) → kept ≡ [] → AreResolvedSoFar variables names shapes objects (resolved_names_of kept)
  none_answered kept none = rw none (λ resolved_names solves n there. absurd (cc))

  -- what stands as before is right
  pub same_answered : (kept now : ℕ → ResolvedView) → ((n : ℕ) → now n ≡ kept n) → AreResolvedSoFar variables names shapes objects kept → AreResolvedSoFar variables names shapes objects now
  same_answered kept now same is = λ resolved_names solves n there. same n ∙ is resolved_names solves n (ap is_some (sym (same n)) ∙ there)

  -- and so what stands at some places is what the names there stand for
  pub answered_each : (kept : ℕ → ResolvedView) (ns : List ℕ) → AreResolvedSoFar variables names shapes objects kept → AllByRecursion (λ n. is_some (kept n) ≡ true) ns
      → (resolved_names : ℕ → ResolvedView) → AreResolvedNames (applying shapes objects) variables names resolved_names → AllByRecursion (λ n. kept n ≡ resolved_names n) ns
  answered_each kept ns is there resolved_names solves = all_by_weaker (λ n. is_some (kept n) ≡ true) (λ n. kept n ≡ resolved_names n) ns (λ n. is resolved_names solves n) there

  module _ (order : List ℕ) (wanted : List Bool) where
    -- what stands once the places of the order before one are looked at
    pub record IsAdding (i : ℕ) (kept : List Resolved) : Type 0 where
      pub room : length names ≤ length kept
      pub answered : AreResolvedSoFar variables names shapes objects (resolved_names_of kept)
      pub there : (n : ℕ) → Contains (take i order) n → has wanted n ≡ true → is_some (resolved_names_of kept n) ≡ true

    pub adding_start : (kept : List Resolved) → length names ≤ length kept → AreResolvedSoFar variables names shapes objects (resolved_names_of kept) → IsAdding 0 kept
    adding_start kept room answered = record {
      room = room;
      answered = answered;
      there = λ n held wants. let inside : held.0 < length {A = ℕ} [] = held.1 in absurd (omega arith);
    }

    -- one place more
    pub adding_more : (i p : ℕ) (missing : Bool) (kept now : List Resolved) → Ranked (directly_before names) → IsInOrder (directly_before names) order → AreClosedForLocals names wanted
        → i < length order → p ≡ slice_index order i → p < length names → missing ≡ has wanted p && not (is_some (resolved_names_of kept p))
        → MatchBool missing ((s : Resolved) × (now ≡ set kept p s) × (resolved_of s ≡ stands_at (applying shapes objects) p (meant_at names p) (environment variables names (resolved_names_of kept)))) (now ≡ kept)
        → IsAdding i kept → IsAdding (i + 1) now
    adding_more i p true kept now ranked ordered closed h is inside missing (s, changed, stood) k =
        let wants_here : has wanted p ≡ true = wanted_too (has wanted p) (not (is_some (resolved_names_of kept p))) missing in
        let below : p < length kept = omega (arith, inside, k.room) in
        let here_is : resolved_names_of (set kept p s) p ≡ stands_at (applying shapes objects) p (meant_at names p) (environment variables names (resolved_names_of kept)) = stand_same kept p s below ∙ stood in
        rw changed (record {
          room = omega (arith, length-set kept p s, k.room);
          answered = λ resolved_names solves n there. elim (cases_eq n p) [
            | inl here ↦
                let right : is_local (meant_at names p) ≡ true → AllByRecursion (λ a. resolved_names_of kept a ≡ resolved_names a) (directly_before names p) = λ local.
                all_by_both (λ a. Contains (take i order) a) (λ a. has wanted a ≡ true) (λ a. resolved_names_of kept a ≡ resolved_names a) (directly_before names p)
                (λ a before wants_before. k.answered resolved_names solves a (k.there a before wants_before)) (rw is (ordered.after i h)) (closed p wants_here local) in
                ap (resolved_names_of (set kept p s)) here ∙ here_is ∙ next_is shapes objects variables names ranked (resolved_names_of kept) resolved_names solves p inside right ∙ ap resolved_names (sym here)
            | inr other ↦
                stand_other kept p n s other ∙ k.answered resolved_names solves n (ap is_some (sym (stand_other kept p n s other)) ∙ there)
          ];
          there = λ n held wants. elim (cases_eq n p) [
            | inl here ↦
                ap (λ a. is_some (resolved_names_of (set kept p s) a)) here ∙ ap is_some here_is
                ∙ stands_there shapes objects p (meant_at names p) (environment variables names (resolved_names_of kept)) (meant_there names p inside)
            | inr other ↦
                ap is_some (stand_other kept p n s other) ∙ k.there n (earlier order i p n h is other held) wants
          ];
        })
    adding_more i p false kept now ranked ordered closed h is inside missing same k = rw same (record {
      room = k.room;
      answered = k.answered;
      there = λ n held wants. elim (cases_eq n p) [
        | inl here ↦
            ap (λ a. is_some (resolved_names_of kept a)) here ∙ there_already (has wanted p) (is_some (resolved_names_of kept p)) missing (ap (has wanted) (sym here) ∙ wants)
        | inr other ↦
            k.there n (earlier order i p n h is other held) wants
      ];
    })

    -- all places are looked at
    pub adding_all : (i : ℕ) (kept : List Resolved) → length order ≤ i → IsAdding i kept → (n : ℕ) → Contains order n → has wanted n ≡ true → is_some (resolved_names_of kept n) ≡ true
    adding_all i kept h k n held wants = k.there n (subst (λ xs. Contains xs n) (sym (take_all i order h)) held) wants

-- where all that is wanted stands, what it is wanted for does
pub others_there : {A E : Type 0} → (names : List NameView) (order others : List ℕ) (wanted : List Bool) (kept : ℕ → ResolvedView) (result : Result A E) → ((n : ℕ) → n < length names → Contains order n)
    → AllByRecursion (λ n. n < length names) others → ((n : ℕ) → IsWanted names others n → has wanted n ≡ true) → OnOk result ((n : ℕ) → Contains order n → has wanted n ≡ true → is_some (kept n) ≡ true)
    → OnOk result (AllByRecursion (λ n. is_some (kept n) ≡ true) others)
others_there names order others wanted kept (Ok a) whole within marked there =
    all_by_contained (λ n. is_some (kept n) ≡ true) others (λ n c. there n (whole n (all_by_at (λ a. a < length names) others n within c)) (marked n (itself n c)))
others_there names order others wanted kept (Err e) whole within marked there = there
