-- Each step keeps the rule of a tally, and who has all parts knows what it says.
use Rattle.std.proofs.Common.{◌≡◌, ◌∙◌, refl, ◌<◌, ◌≤◌, ◌+◌, ℕ, zero, suc, List, [], ◌∷◌, ◌++◌, set, sym, ap, subst, ⊎_elim, arith}
use Rattle.std.proofs.lemmas.List.Sums.{sum_by-cons, sum_by_push, sum_by-append}
use Rattle.std.specs.List.{sum_by}
use mathlib.Core.Option.{some, some-injective, some-ne-none}
use lib.ListN.{get_elem?}
use Rattle.atomic_table.proofs.Lists.{at_set, at_snoc, set_else, set_again}
use Rattle.tf_tally.specs.declared.holding.Holding.{Holding}
use Rattle.tf_tally.specs.Holdings.{staying, going, merged, added, blank, parts_of, kept_weight, reported_weight, IsSound, IsKept, IsBalanced}
use Rattle.tf_tally.specs.Laws.{KnowsAll}

module _ {E : Type 0} where
  -- the total after a change of one holding
  total_set : (f : Holding E → ℕ) (views : List (Holding E)) (k : ℕ) (v w : Holding E) → get_elem? views k ≡ some v → sum_by f (set views k w) + f v ≡ sum_by f views + f w
  total_set f [] k v w at = absurd (some-ne-none v (sym at))
  total_set f (x ∷ xs) zero v w at =
      let e : f x ≡ f v = ap f (some-injective x v at) in
      omega (arith, sum_by-cons f w xs, sum_by-cons f x xs)
  total_set f (x ∷ xs) (suc k) v w at =
      let r = total_set f xs k v w at in
      omega (arith, sum_by-cons f x (set xs k w), sum_by-cons f x xs)

  -- what one has is no more than what all have
  at_most : (f : Holding E → ℕ) (views : List (Holding E)) (k : ℕ) (v : Holding E) → get_elem? views k ≡ some v → f v ≤ sum_by f views
  at_most f [] k v at = absurd (some-ne-none v (sym at))
  at_most f (x ∷ xs) zero v at =
      let e : f x ≡ f v = ap f (some-injective x v at) in
      omega (arith, sum_by-cons f x xs)
  at_most f (x ∷ xs) (suc k) v at =
      let r = at_most f xs k v at in
      omega (arith, sum_by-cons f x xs)

  -- where each has nothing, all have nothing
  none_of : (f : Holding E → ℕ) (views : List (Holding E)) → ((k : ℕ) (v : Holding E) → get_elem? views k ≡ some v → f v ≡ 0) → sum_by f views ≡ 0
  none_of f [] each = omega arith
  none_of f (x ∷ xs) each =
      let here = each 0 x (λ i. some x) in
      let r = none_of f xs (λ k v at. each (suc k) v at) in
      omega (arith, sum_by-cons f x xs)

  module _ (whole : ℕ) (views : List (Holding E)) (kept : IsKept whole views) (k : ℕ) (v : Holding E) (at : get_elem? views k ≡ some v) where
    -- a holding with a part is changed
    sound_set : (w : Holding E) → IsSound whole w → (j : ℕ) (u : Holding E) → get_elem? (set views k w) j ≡ some u → IsSound whole u
    sound_set w sound j u there =
        ⊎_elim (λ t. subst (λ (x : Holding E). IsSound whole x) t.1 sound) (λ t. kept.each j u t.1) (at_set views k j w u there)

    knows : 0 < v.parts → v.whole ≡ whole
    knows some_part = (kept.each k v at).some_part some_part

    pub splits : 1 < v.parts → IsKept whole (set views k (staying v) ++ going v ∷ [])
    splits two =
        record {
          parts =
              let p = kept.parts in
              omega (arith, total_set parts_of views k v (staying v) at, sum_by_push parts_of (set views k (staying v)) (going v));
          balanced = λ h.
              let b = kept.balanced h in
              omega (
                arith,
                total_set (reported_weight h) views k v (staying v) at,
                sum_by_push (reported_weight h) (set views k (staying v)) (going v),
                total_set (kept_weight h) views k v (staying v) at,
                sum_by_push (kept_weight h) (set views k (staying v)) (going v),
              );
          each = λ j u there.
              ⊎_elim (sound_set (staying v) (record { none = λ e. absurd (omega arith); some_part = λ _. knows (omega arith) }) j u)
              (λ e. subst (λ (x : Holding E). IsSound whole x) e (record { none = λ e. absurd (omega arith); some_part = λ _. knows (omega arith) }))
              (at_snoc (set views k (staying v)) (going v) u j there);
        }

    pub adds : 0 < v.parts → (x : E) → IsKept whole (set views k (added x v))
    adds more x =
        record {
          parts =
              let p = kept.parts in
              omega (arith, total_set parts_of views k v (added x v) at);
          balanced = λ h.
              let b = kept.balanced h in
              omega (
                arith,
                total_set (reported_weight h) views k v (added x v) at,
                sum_by_push h v.reported x,
                total_set (kept_weight h) views k v (added x v) at,
                sum_by_push h v.kept x,
              );
          each = sound_set (added x v) (record { none = λ e. absurd (omega arith); some_part = λ _. knows more });
        }

    pub merges : 0 < v.parts → (j : ℕ) (w : Holding E) → get_elem? (set views k (merged v w)) j ≡ some w → IsKept whole (set (set views k (merged v w)) j blank)
    merges more j w there =
        let both : List (Holding E) = set views k (merged v w) in
        record {
          parts =
              let p = kept.parts in
              omega (arith, total_set parts_of views k v (merged v w) at, total_set parts_of both j w blank there);
          balanced = λ h.
              let b = kept.balanced h in
              omega (
                arith,
                total_set (reported_weight h) views k v (merged v w) at,
                total_set (reported_weight h) both j w blank there,
                sum_by-append h v.reported w.reported,
                total_set (kept_weight h) views k v (merged v w) at,
                total_set (kept_weight h) both j w blank there,
                sum_by-append h v.kept w.kept,
              );
          each = λ i u here.
              ⊎_elim (λ t. subst (λ (x : Holding E). IsSound whole x) t.1 (record { none = λ _. (refl, refl); some_part = λ e. absurd (omega arith) }))
              (λ t. sound_set (merged v w) (record { none = λ e. absurd (omega arith); some_part = λ _. knows more }) i u t.1)
              (at_set both j i blank u here);
        }

    -- a load leaves the holdings as they are
    pub stays : IsKept whole (set views k v)
    stays = subst (λ (l : List (Holding E)). IsKept whole l) (sym (set_again views k v at)) kept

    module _ (all : v.parts ≡ whole) where
      abbrev others : List (Holding E)
      others = set views k blank

      no_parts : sum_by parts_of others ≡ 0
      no_parts =
          let p = kept.parts in
          omega (arith, total_set parts_of views k v blank at)

      other_none : (j : ℕ) (u : Holding E) → get_elem? others j ≡ some u → (u.parts ≡ 0) × (u.kept ≡ []) × (u.reported ≡ [])
      other_none j u there =
          let none : u.parts ≡ 0 = omega (arith, at_most parts_of others j u there, no_parts) in
          let sound : IsSound whole u = sound_set blank (record { none = λ _. (refl, refl); some_part = λ e. absurd (omega arith) }) j u there in
          let both = sound.none none in (none, both.0, both.1)

      weightless : (f : Holding E → ℕ) → f blank ≡ 0 → ((u : Holding E) → (u.kept ≡ []) → (u.reported ≡ []) → f u ≡ 0) → sum_by f views ≡ f v
      weightless f zero_blank zero_empty =
          let rest = none_of f others (λ j u there. let n = other_none j u there in zero_empty u n.1 n.2) in
          omega (arith, total_set f views k v blank at)

      pub all_balanced : IsBalanced v
      all_balanced h =
          let b = kept.balanced h in
          let t = weightless (reported_weight h) refl (λ u none_kept none_reported. ap (λ l. sum_by h l) none_reported) in
          let s = weightless (kept_weight h) refl (λ u none_kept none_reported. ap (λ l. sum_by h l) none_kept) in
          omega arith

      pub knows_all : KnowsAll views k v
      knows_all = record {
        balanced = all_balanced;
        others = λ other w apart there. other_none other w (set_else views k other blank apart ∙ there);
      }
