-- The list of pairs: what it holds, as far as a loop has come, and that its graph has no cycle.
use Rattle.std.proofs.Common.{◌≡◌, ◌∙◌, ◌<◌, ◌≤◌, ◌+◌, ◌-◌, ◌⊎◌, ◌&&◌, ◌||◌, ◌≢◌, ℕ, zero, suc, Bool, true, false, not, cond, List, [], ◌∷◌, ◌++◌, length, refl, sym, ap, subst, arith, append_assoc, inl, inr}
use Rattle.std.specs.List.{flat_map, range_with_len}
use Rattle.std.specs.Prelude.{Contains, slice_index_or}
use Rattle.std.proofs.lemmas.Bool.{and_from, and_parts, both_ways, cases_eq, eq-eqb, eqb-true, false_from_ne_true, not-true, not_from_false, or_cases, or_left, or_right}
use Rattle.std.proofs.lemmas.List.{length-append}
use Rattle.std.proofs.lemmas.List.Elements.{Contains-append_left, Contains-append_right, Contains-append_cases, Contains-get_or}
use Rattle.tf_graph.proofs.Edges.{contains_cases, contains_head, contains_tail, all_by_contained, edge-from_source, predecessors-stay_below, stands-from_reaches}
use Rattle.tf_graph.proofs.Solving.{ranked-by_order, ranked-no_cycle}
use Rattle.tf_graph.specs.Digraph.{Digraph, IsWithin, edge_at, predecessors_of}
use Rattle.tf_graph.specs.Solutions.{Ranked}
use Rattle.tf_plan_order.proofs.Chains.{is_below, below-itself, below-onward, below-before, below-from_test, test-from_below}
use Rattle.tf_plan_order.specs.Before.{IsApply, IsDestroy, Before, needed_first, dependent_destroyed_first, old_destroyed_first, new_created_first, dependent_applied_first, are_halves, is_before, is_before_by, is_dependent, is_destroyed_first}
use Rattle.tf_plan_order.specs.Laws.{BeforeIsTested, PairsAreThose}
use Rattle.tf_plan_order.specs.Order.{IsOrder, action_at, pair, pairs, pairs_into}
use Rattle.tf_plan_order.specs.OrderInput.{OrderInputView, AreSound}
use Rattle.tf_plan_order.specs.declared.action.OrderedAction.{OrderedAction}
use Rattle.tf_plan_order.specs.declared.action.ActionKind.{ActionKind}
use Rattle.tf_plan_order.specs.declared.action.ActionKind.TheVariants.{Apply, Destroy, DestroyDeposed}

-- ---- the test of the five cases

pub halves-parts : (x y : OrderedAction) → are_halves x y ≡ true → (x.replaces ≡ true) × (y.replaces ≡ true) × (x.resource ≡ y.resource) × (x.instance ≡ y.instance)
halves-parts x y h =
    let p = and_parts _ _ h in
    let q = and_parts _ _ p.0 in
    let r = and_parts _ _ q.0 in
    (r.0, r.1, eqb-true x.resource y.resource q.1, eqb-true x.instance y.instance p.1)

pub halves-from : (x y : OrderedAction) → x.replaces ≡ true → y.replaces ≡ true → x.resource ≡ y.resource → x.instance ≡ y.instance → are_halves x y ≡ true
halves-from x y h k e f = and_from _ _ (and_from _ _ (and_from _ _ h k) (eq-eqb x.resource y.resource e)) (eq-eqb x.instance y.instance f)

module _ (t : OrderInputView) (x y : OrderedAction) where
  replace-early : x.kind ≡ Destroy → y.kind ≡ Apply → (are_halves x y && not (t.late x.resource)) ≡ true → Before t x y
  replace-early hx hy h =
      let p = and_parts (are_halves x y) (not (t.late x.resource)) h in
      let q = halves-parts x y p.0 in
      old_destroyed_first x y (record { destroys = hx; creates = hy; old_half = q.0; new_half = q.1; resource = q.2; instance = q.3 }) (not-true (t.late x.resource) p.1)

  dependent-applied : IsApply x → IsDestroy y → t.late y.resource ≡ true → is_dependent t x y ≡ true → Before t x y
  dependent-applied hx hy late h = dependent_applied_first x y hx hy late (or_cases (t.needs x.resource y.resource) (t.needed x.resource y.resource) h)

  replace-late : x.kind ≡ Apply → y.kind ≡ Destroy → (t.late y.resource && (are_halves x y || is_dependent t x y)) ≡ true → Before t x y
  replace-late hx hy h =
      let p = and_parts (t.late y.resource) (are_halves x y || is_dependent t x y) h in
      elim (or_cases (are_halves x y) (is_dependent t x y) p.1) [
        | inl halves ↦
            let q = halves-parts x y halves in
            new_created_first y x (record { destroys = hy; creates = hx; old_half = q.1; new_half = q.0; resource = sym q.2; instance = sym q.3 }) p.0
        | inr dependent ↦ dependent-applied hx (inl hy) p.0 dependent
      ]

  destroyed : IsDestroy x → IsDestroy y → is_destroyed_first t x y ≡ true → Before t x y
  destroyed hx hy h =
      let p = and_parts (t.needed x.resource y.resource) (not (t.needed y.resource x.resource)) h in
      dependent_destroyed_first x y hx hy p.0 (not-true (t.needed y.resource x.resource) p.1)

  from_test : (k m : ActionKind) → x.kind ≡ k → y.kind ≡ m → is_before_by t x y k m ≡ true → Before t x y
  from_test Apply Apply hx hy h = needed_first x y hx hy h
  from_test Apply Destroy hx hy h = replace-late hx hy h
  from_test Apply DestroyDeposed hx hy h =
      let p = and_parts (t.late y.resource) (is_dependent t x y) h in dependent-applied hx (inr hy) p.0 p.1
  from_test Destroy Apply hx hy h = replace-early hx hy h
  from_test DestroyDeposed Apply hx hy h = absurd (both_ways false refl h)
  from_test Destroy Destroy hx hy h = destroyed (inl hx) (inl hy) h
  from_test Destroy DestroyDeposed hx hy h = destroyed (inl hx) (inr hy) h
  from_test DestroyDeposed Destroy hx hy h = destroyed (inr hx) (inl hy) h
  from_test DestroyDeposed DestroyDeposed hx hy h = destroyed (inr hx) (inr hy) h

  by_kinds : (k m : ActionKind) → x.kind ≡ k → y.kind ≡ m → is_before_by t x y k m ≡ true → is_before t x y ≡ true
  by_kinds k m hx hy h = rw (hx, hy) h

  test_destroyed : IsDestroy x → IsDestroy y → is_destroyed_first t x y ≡ true → is_before t x y ≡ true
  test_destroyed (inl hx) (inl hy) h = by_kinds Destroy Destroy hx hy h
  test_destroyed (inl hx) (inr hy) h = by_kinds Destroy DestroyDeposed hx hy h
  test_destroyed (inr hx) (inl hy) h = by_kinds DestroyDeposed Destroy hx hy h
  test_destroyed (inr hx) (inr hy) h = by_kinds DestroyDeposed DestroyDeposed hx hy h

  test_dependent : IsApply x → IsDestroy y → t.late y.resource ≡ true → is_dependent t x y ≡ true → is_before t x y ≡ true
  test_dependent hx (inl hy) late h = by_kinds Apply Destroy hx hy (and_from _ _ late (or_right (are_halves x y) (is_dependent t x y) h))
  test_dependent hx (inr hy) late h = by_kinds Apply DestroyDeposed hx hy (and_from _ _ late h)

dependent_from : (t : OrderInputView) (x y : OrderedAction) → (t.needs x.resource y.resource ≡ true) ⊎ (t.needed x.resource y.resource ≡ true) → is_dependent t x y ≡ true
dependent_from t x y (inl h) = or_left _ _ h
dependent_from t x y (inr h) = or_right _ _ h

to_test : (t : OrderInputView) (x y : OrderedAction) → Before t x y → is_before t x y ≡ true
to_test t _ _ (needed_first b a hb ha h) = by_kinds t b a Apply Apply hb ha h
to_test t _ _ (dependent_destroyed_first a b ha hb h back) = test_destroyed t a b ha hb (and_from _ _ h (not_from_false _ back))
to_test t _ _ (old_destroyed_first old new r early) =
    by_kinds t old new Destroy Apply r.destroys r.creates (and_from _ _ (halves-from old new r.old_half r.new_half r.resource r.instance) (not_from_false _ early))
to_test t _ _ (new_created_first old new r late) =
    by_kinds t new old Apply Destroy r.creates r.destroys (and_from _ _ late (or_left _ _ (halves-from new old r.new_half r.old_half (sym r.resource) (sym r.instance))))
to_test t _ _ (dependent_applied_first a b ha hb late h) = test_dependent t a b ha hb late (dependent_from t a b h)

pub before-tested : BeforeIsTested
before-tested t x y = (λ h. from_test t x y x.kind y.kind refl refl h, λ h. to_test t x y h)

-- ---- what is made of each number of a range, one after another

abbrev pub made : {A : Type 0} → (ℕ → List A) → ℕ → ℕ → List A
made f from to = flat_map f (range_with_len from (to - from))

module _ {A : Type 0} (f : ℕ → List A) where
  made-next : (from to : ℕ) → from < to → made f from to ≡ f from ++ made f (from + 1) to
  made-next from to h = let one : to - from ≡ suc (to - (from + 1)) = omega (arith, h) in ap (λ k. flat_map f (range_with_len from k)) one

  pub made-done : (from to : ℕ) (found all : List A) → to ≤ from → found ++ made f from to ≡ all → found ≡ all
  made-done from to found all h e =
      let none : to - from ≡ 0 = omega (arith, h) in
      let rest : made f from to ≡ [] = ap (λ k. flat_map f (range_with_len from k)) none in
      sym (append_nil found) ∙ ap (λ xs. found ++ xs) (sym rest) ∙ e
    where
      append_nil : (xs : List A) → xs ++ [] ≡ xs
      append_nil [] = refl
      append_nil (x ∷ xs) = ap (λ ys. x ∷ ys) (append_nil xs)

  pub made-step : (from to : ℕ) (found more all : List A) → from < to → more ≡ found ++ f from → found ++ made f from to ≡ all → more ++ made f (from + 1) to ≡ all
  made-step from to found more all h is e =
      ap (λ xs. xs ++ made f (from + 1) to) is ∙ append_assoc found (f from) (made f (from + 1) to) ∙ ap (λ xs. found ++ xs) (sym (made-next from to h)) ∙ e

  pub made-long : (from to : ℕ) (found all : List A) → from < to → found ++ made f from to ≡ all → length (found ++ f from) ≤ length all
  made-long from to found all h e =
      let step : (found ++ f from) ++ made f (from + 1) to ≡ all = made-step from to found (found ++ f from) all h refl e in
      let long : length all ≡ length (found ++ f from) + length (made f (from + 1) to) = ap length (sym step) ∙ length-append (found ++ f from) (made f (from + 1) to) in
      omega (arith, long)

  skip_by : (n from to : ℕ) → from + n ≤ to → ((k : ℕ) → from ≤ k → k < from + n → f k ≡ []) → made f from to ≡ made f (from + n) to
  skip_by zero from to h none = ap (λ k. made f k to) (omega arith)
  skip_by (suc n) from to h none =
      made-next from to (omega (arith, h))
      ∙ ap (λ xs. xs ++ made f (from + 1) to) (none from (omega arith) (omega arith))
      ∙ skip_by n (from + 1) to (omega (arith, h)) (λ k low high. none k (omega (arith, low)) (omega (arith, high)))
      ∙ ap (λ k. made f k to) (omega arith)

  -- numbers of which nothing is made are passed over
  pub made-skip : (from mid to : ℕ) (found all : List A) → from ≤ mid → mid ≤ to → ((k : ℕ) → from ≤ k → k < mid → f k ≡ []) → found ++ made f from to ≡ all → found ++ made f mid to ≡ all
  made-skip from mid to found all h k none e =
      let same : from + (mid - from) ≡ mid = omega (arith, h) in
      let skipped : made f from to ≡ made f (from + (mid - from)) to = skip_by (mid - from) from to (omega (arith, same, k)) (λ j low high. none j low (omega (arith, same, high))) in
      let rest : made f from to ≡ made f mid to = skipped ∙ ap (λ j. made f j to) same in
      ap (λ xs. found ++ xs) (sym rest) ∙ e

  pub made-many : (most from to : ℕ) (found all : List A) → from < to → found ++ made f from to ≡ all → most < length (found ++ f from) → most < length all
  made-many most from to found all h e many =
      let long = made-long from to found all h e in
      omega (arith, long, many)

  pub from_made : (n from : ℕ) (x : A) → Contains (flat_map f (range_with_len from n)) x → (k : ℕ) × (from ≤ k) × (k < from + n) × Contains (f k) x
  from_made zero from x c = absurd (omega (arith, c.1))
  from_made (suc n) from x c = elim (Contains-append_cases (f from) (flat_map f (range_with_len (from + 1) n)) x c) [
    | inl here ↦ (from, omega arith, omega arith, here)
    | inr rest ↦ let later = from_made n (from + 1) x rest in (later.0, omega (arith, later.1), omega (arith, later.2), later.3)
  ]

  pub to_made : (n from k : ℕ) (x : A) → from ≤ k → k < from + n → Contains (f k) x → Contains (flat_map f (range_with_len from n)) x
  to_made zero from k x low high c = absurd (omega (arith, low, high))
  to_made (suc n) from k x low high c = elim (cases_eq from k) [
    | inl here ↦ Contains-append_left (f from) (flat_map f (range_with_len (from + 1) n)) x (rw here c)
    | inr other ↦ Contains-append_right (f from) (flat_map f (range_with_len (from + 1) n)) x (to_made n (from + 1) k x (omega (arith, low, other)) (omega (arith, high)) c)
  ]

-- ---- a list without an element that stands twice

abbrev Apart : {A : Type 0} → List A → Type 0
Apart [] = Unit
Apart (x ∷ xs) = (Contains xs x → ⊥) × Apart xs

apart-append : {A : Type 0} (xs ys : List A) → Apart xs → Apart ys → ((x : A) → Contains xs x → Contains ys x → ⊥) → Apart (xs ++ ys)
apart-append [] ys h k none = k
apart-append (x ∷ xs) ys h k none = (
  λ c. elim (Contains-append_cases xs ys x c) [ inl early ↦ h.0 early | inr late ↦ none x (contains_head x x xs refl) late ],
  apart-append xs ys h.1 k (λ y c d. none y (contains_tail y x xs c) d),
)

apart-made : {A : Type 0} (f : ℕ → List A) → ((k : ℕ) → Apart (f k)) → ((k m : ℕ) (x : A) → Contains (f k) x → Contains (f m) x → k ≡ m) → (n from : ℕ) → Apart (flat_map f (range_with_len from n))
apart-made f each one zero from = tt
apart-made f each one (suc n) from = apart-append (f from) (flat_map f (range_with_len (from + 1) n)) (each from) (apart-made f each one n (from + 1)) (λ x c d.
    let later = from_made f n (from + 1) x d in
    let same : from ≡ later.0 = one from later.0 x c later.3 in
    absurd (omega (arith, same, later.1)))

apart-at : {A : Type 0} (xs : List A) (d : A) → Apart xs → (i j : ℕ) → i < j → j < length xs → slice_index_or xs i d ≢ slice_index_or xs j d
apart-at [] d h i j less inside same = absurd (omega (arith, inside))
apart-at (x ∷ xs) d h zero zero less inside same = absurd (omega (arith, less))
apart-at (x ∷ xs) d h zero (suc j) less inside same = h.0 (subst (λ y. Contains xs y) (sym same) (Contains-get_or xs j d (omega (arith, inside))))
apart-at (x ∷ xs) d h (suc i) zero less inside same = absurd (omega (arith, less))
apart-at (x ∷ xs) d h (suc i) (suc j) less inside same = apart-at xs d h.1 i j (omega (arith, less)) (omega (arith, inside)) same

-- ---- the list of pairs

module _ (t : OrderInputView) (actions : List OrderedAction) where
  abbrev Holds : ℕ → ℕ → Bool
  Holds a b = is_before t (action_at actions a) (action_at actions b)

  from_pair : (b a : ℕ) (e : ℕ × ℕ) → Contains (pair t actions b a) e → ((a, b) ≡ e) × (Holds a b ≡ true)
  from_pair b a e c = by_test (Holds a b) refl c
    where
      by_test : (yes : Bool) → Holds a b ≡ yes → Contains (cond yes ((a, b) ∷ []) []) e → ((a, b) ≡ e) × (Holds a b ≡ true)
      by_test true is d = elim (contains_cases e (a, b) [] d) [ inl same ↦ (same, is) | inr none ↦ absurd (omega (arith, none.1)) ]
      by_test false is d = absurd (omega (arith, d.1))

  to_pair : (b a : ℕ) → Holds a b ≡ true → Contains (pair t actions b a) (a, b)
  to_pair b a h = let e : ℕ × ℕ = (a, b) in subst (λ yes. Contains {X = ℕ × ℕ} (cond yes (e ∷ []) []) e) (sym h) (contains_head e e [] refl)

  apart-pair : (b a : ℕ) → Apart (pair t actions b a)
  apart-pair b a = by_test (Holds a b)
    where
      by_test : (yes : Bool) → Apart {A = ℕ × ℕ} (cond yes ((a, b) ∷ []) [])
      by_test true = (λ c. absurd (omega (arith, c.1)), tt)
      by_test false = tt

  from_row : (b : ℕ) (e : ℕ × ℕ) → Contains (pairs_into t actions b) e → (e.0 < length actions) × (e.1 ≡ b) × (Holds e.0 b ≡ true)
  from_row b e c =
      let p = from_made (pair t actions b) (length actions) 0 e c in
      let q = from_pair b p.0 e p.3 in
      let first : p.0 ≡ e.0 = ap (λ (x : ℕ × ℕ). x.0) q.0 in
      let second : b ≡ e.1 = ap (λ (x : ℕ × ℕ). x.1) q.0 in
      (rw (← first) (omega (arith, p.2)), sym second, subst (λ a. Holds a b ≡ true) first q.1)

  pub from_pairs : (e : ℕ × ℕ) → Contains (pairs t actions) e → (e.0 < length actions) × (e.1 < length actions) × (Holds e.0 e.1 ≡ true)
  from_pairs e c =
      let p = from_made (pairs_into t actions) (length actions) 0 e c in
      let q = from_row p.0 e p.3 in
      (q.0, rw q.1 (omega (arith, p.2)), subst (λ b. Holds e.0 b ≡ true) (sym q.1) q.2)

  to_pairs : (a b : ℕ) → a < length actions → b < length actions → Holds a b ≡ true → Contains (pairs t actions) (a, b)
  to_pairs a b ha hb h =
      to_made (pairs_into t actions) (length actions) 0 b (a, b) (omega arith) (omega (arith, hb))
      (to_made (pair t actions b) (length actions) 0 a (a, b) (omega arith) (omega (arith, ha)) (to_pair b a h))

  apart-row : (b : ℕ) → Apart (pairs_into t actions b)
  apart-row b = apart-made (pair t actions b) (apart-pair b) (λ k m e c d. ap (λ (x : ℕ × ℕ). x.0) ((from_pair b k e c).0 ∙ sym (from_pair b m e d).0)) (length actions) 0

  apart-pairs : Apart (pairs t actions)
  apart-pairs = apart-made (pairs_into t actions) apart-row (λ k m e c d. sym (from_row k e c).1 ∙ (from_row m e d).1) (length actions) 0

  pub pairs-within : IsWithin (length actions) (pairs t actions)
  pairs-within = record {
    source_below = λ i h. (from_pairs (edge_at (pairs t actions) i) (Contains-get_or (pairs t actions) i (0, 0) h)).0;
    target_below = λ i h. (from_pairs (edge_at (pairs t actions) i) (Contains-get_or (pairs t actions) i (0, 0) h)).1;
  }

  -- ---- its graph has no cycle

  below-edge : AreSound t → (a b : ℕ) → Contains (pairs t actions) (a, b) → is_below t (action_at actions a) (action_at actions b) ≡ true
  below-edge s a b c =
      test-from_below t (action_at actions a) (action_at actions b)
      (below-before t s (action_at actions a) (action_at actions b) ((before-tested t (action_at actions a) (action_at actions b)).0 (from_pairs (a, b) c).2))

  order-ranked : AreSound t → (g : Digraph) → g.edges ≡ pairs t actions → Ranked (predecessors_of g)
  order-ranked s g edges = ranked-by_order (length actions) (predecessors_of g) (λ a b. is_below t (action_at actions a) (action_at actions b)) (record {
    irreflexive = λ a h. false_from_ne_true _ (λ yes. below-itself t s (action_at actions a) (below-from_test t (action_at actions a) (action_at actions a) yes));
    transitive = λ a b c h k p q. test-from_below t (action_at actions a) (action_at actions c)
        (below-onward t s (action_at actions a) (action_at actions b) (action_at actions c) (below-from_test t (action_at actions a) (action_at actions b) p) (below-from_test t (action_at actions b) (action_at actions c) q));
    holds = λ n. all_by_contained (λ a. (a < length actions) × (is_below t (action_at actions a) (action_at actions n) ≡ true)) (predecessors_of g n) (λ a c.
        let e : Contains (pairs t actions) (a, n) = subst (λ xs. Contains xs (a, n)) edges (edge-from_source g.edges n a c) in
        ((from_pairs (a, n) e).0, below-edge s a n e));
  })

  pub pairs-order : AreSound t → (g : Digraph) → g.nodes ≡ length actions → g.edges ≡ pairs t actions → IsOrder g
  pairs-order s g nodes edges =
      let ranked : Ranked (predecessors_of g) = order-ranked s g edges in
      let within : IsWithin g.nodes g.edges = rw (nodes, edges) pairs-within in
      record {
        acyclic = λ n p. ranked-no_cycle (predecessors_of g) ranked n (stands-from_reaches g n n p);
        ranked = ranked;
        below = predecessors-stay_below g within;
      }

pub pairs-those : PairsAreThose
pairs-those t actions = (
  λ a b. (
    λ c. let p = from_pairs t actions (a, b) c in (p.0, p.1, (before-tested t (action_at actions a) (action_at actions b)).0 p.2),
    λ h. to_pairs t actions a b h.0 h.1 ((before-tested t (action_at actions a) (action_at actions b)).1 h.2),
  ),
  λ i j less inside. apart-at (pairs t actions) (0, 0) (apart-pairs t actions) i j less inside,
)
