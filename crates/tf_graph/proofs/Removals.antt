-- A removal: at its start, one node on, and at its end.
use Rattle.std.proofs.Common.{◌≡◌, ◌==◌, ◌+◌, ◌-◌, ◌<◌, ◌≤◌, ◌∷◌, ◌++◌, [], ℕ, zero, suc, List, Bool, true, false, cond, length, get_or, set, take, map, filter, replicate, refl, sym, ap, ◌∙◌, arith, eqb, inl, inr}
use Rattle.std.specs.Prelude.{Contains, slice_index}
use Rattle.std.proofs.lemmas.Bool.{cases_eq, cases_lt, cases_Bool, eq-eqb, ne_eqb, eqb-true, both_ways}
use Rattle.std.proofs.lemmas.List.{get_or_read, get_or-set_same, get_or-set_other, get_or_past, get_or_append_left, get_or_push, get_or_default, get_or-take, length-set, length-take, length_push, length-replicate, get_or-replicate}
use Rattle.std.proofs.lemmas.List.Elements.{Contains-append_left, Contains-push, Contains-push_cases}
use Rattle.tf_graph.specs.Digraph.{Digraph, IsWithin, sources_into, targets_from, predecessors_of, successors_of}
use Rattle.tf_graph.proofs.Edges.{all_by_contained, edge-from_source, source_inside, target_inside, contains_head, contains_tail, contains_cases}
use Rattle.tf_graph.specs.NodeSet.{has}
use Rattle.tf_graph.specs.Order.{IsInOrder}
use Rattle.tf_graph.proofs.Solving.{all_by_at, order-grows}
use Rattle.tf_graph.proofs.Orders.{ordered-next, order-empty}
use Rattle.tf_graph.proofs.GraphLaws.{has_below}
use Rattle.tf_graph.specs.Strip.{IsStripped, IsWholeOrder}
use Rattle.tf_graph.specs.Removal.{times, count_left, total, IsRemoval, IsTaken}

-- one less at a place, one less in all
pub total-set : (xs : List ℕ) (i : ℕ) → i < length xs → 0 < slice_index xs i → total (set xs i (slice_index xs i - 1)) + 1 ≡ total xs
unfolding total
total-set [] i h k = absurd (omega arith)
total-set (x ∷ xs) zero h k = omega arith
total-set (x ∷ xs) (suc i) h k =
    let rest : total (set xs i (slice_index xs i - 1)) + 1 ≡ total xs = total-set xs i (omega arith) k in
    omega arith

times-nil : (n : ℕ) → times n [] ≡ 0
unfolding times
times-nil n = refl

times-head : (n : ℕ) (xs : List ℕ) → times n (n ∷ xs) ≡ times n xs + 1
unfolding times
times-head n xs = let test : eqb n n ≡ true = eq-eqb n n refl in rw test (omega arith)

times-tail : (n x : ℕ) (xs : List ℕ) → (x ≡ n → ⊥) → times n (x ∷ xs) ≡ times n xs
unfolding times
times-tail n x xs h = let test : eqb x n ≡ false = ne_eqb x n h in rw test (omega arith)

pub times-some : (n : ℕ) (xs : List ℕ) → times n xs < times n (n ∷ xs)
times-some n xs = omega (arith, times-head n xs)

pub times-less : (n x : ℕ) (xs : List ℕ) → times n xs ≤ times n (x ∷ xs)
times-less n x xs = elim (cases_eq x n) [
  | inl here ↦ rw here (omega (arith, times-head n xs))
  | inr other ↦ omega (arith, times-tail n x xs other)
]

-- an edge stands as often before its target as after its source
pub times-swapped : (edges : List (ℕ × ℕ)) (n s : ℕ) → times n (sources_into edges s) ≡ times s (targets_from edges n)
unfolding times
times-swapped [] n s = refl
times-swapped (e ∷ edges) n s =
    let rest : times n (sources_into edges s) ≡ times s (targets_from edges n) = times-swapped edges n s in
    by_tests (eqb e.1 s) (eqb e.0 n) refl refl rest
  where
    by_tests : (b d : Bool) → eqb e.1 s ≡ b → eqb e.0 n ≡ d → times n (sources_into edges s) ≡ times s (targets_from edges n) → times n (map (λ (x : ℕ × ℕ). x.0) (cond b (e ∷ filter (λ (x : ℕ × ℕ). x.1 == s) edges) (filter (λ (x : ℕ × ℕ). x.1 == s) edges))) ≡ times s (map (λ (x : ℕ × ℕ). x.1) (cond d (e ∷ filter (λ (x : ℕ × ℕ). x.0 == n) edges) (filter (λ (x : ℕ × ℕ). x.0 == n) edges)))
    by_tests true true p q r = rw (p, q) (ap (λ k. 1 + k) r)
    by_tests true false p q r = rw q (omega (arith, r))
    by_tests false true p q r = rw p (omega (arith, r))
    by_tests false false p q r = r

-- a left node that goes
pub count_left-set : (left : List Bool) (n : ℕ) (xs : List ℕ) → has left n ≡ true → n < length left → count_left left xs ≡ count_left (set left n false) xs + times n xs
unfolding count_left times
count_left-set left n [] h below = refl
count_left-set left n (x ∷ xs) h below =
    let rest : count_left left xs ≡ count_left (set left n false) xs + times n xs = count_left-set left n xs h below in
    elim (cases_eq x n) [
      | inl here ↦
          let now : has (set left n false) x ≡ false = rw here (get_or-set_same left n false false below) in
          let was : has left x ≡ true = rw here h in
          let test : eqb x n ≡ true = eq-eqb x n here in
          rw (now, was, test) (omega arith)
      | inr other ↦
          let same : has (set left n false) x ≡ has left x = get_or-set_other left n x false false other in
          let test : eqb x n ≡ false = ne_eqb x n other in
          rw (same, test) (omega arith)
    ]

-- none left, none counted
pub none-from_count : (left : List Bool) (xs : List ℕ) → count_left left xs ≡ 0 → (a : ℕ) → Contains xs a → has left a ≡ false
unfolding count_left
none-from_count left [] h a c = absurd (omega (arith, c.1))
none-from_count left (x ∷ xs) h a c = elim (cases_Bool (has left x)) [
  | inl here ↦ absurd (let one : 1 + count_left left xs ≡ 0 = rw here at h in omega arith)
  | inr gone ↦
      let counted : 0 + count_left left xs ≡ 0 = rw gone at h in
      let rest : count_left left xs ≡ 0 = omega arith in
      elim (contains_cases a x xs c) [ inl first ↦ rw (← first) gone | inr late ↦ none-from_count left xs rest a late ]
]

-- some counted, some left
pub some-from_count : (left : List Bool) (xs : List ℕ) → (count_left left xs ≡ 0 → ⊥) → (a : ℕ) × Contains xs a × (has left a ≡ true)
unfolding count_left
some-from_count left [] h = absurd (h refl)
some-from_count left (x ∷ xs) h = elim (cases_Bool (has left x)) [
  | inl here ↦ (x, contains_head x x xs refl, here)
  | inr gone ↦
      let found = some-from_count left xs (λ z. h (rw gone (let e : 0 + count_left left xs ≡ 0 = omega arith in e))) in
      (found.0, contains_tail found.0 x xs found.1, found.2)
]

-- all left, all counted
pub all-counted : (left : List Bool) (xs : List ℕ) → ((a : ℕ) → Contains xs a → has left a ≡ true) → count_left left xs ≡ length xs
unfolding count_left
all-counted left [] h = refl
all-counted left (x ∷ xs) h =
    let rest : count_left left xs ≡ length xs = all-counted left xs (λ a c. h a (contains_tail a x xs c)) in
    let here : has left x ≡ true = h x (contains_head x x xs refl) in
    rw here (omega arith)

-- the counts and free nodes of the first nodes
pub record IsStart (g : Digraph) (remaining free : List ℕ) (upto : ℕ) : Type 0 where
  pub long : length remaining ≡ upto
  pub counts : (s : ℕ) → s < upto → slice_index remaining s ≡ length (predecessors_of g s)
  pub free_zero : (s : ℕ) → Contains free s → (s < upto) × (slice_index remaining s ≡ 0)
  pub ready : (s : ℕ) → s < upto → slice_index remaining s ≡ 0 → Contains free s

pub start-more : (g : Digraph) (remaining free more_free : List ℕ) (node count : ℕ) → IsStart g remaining free node → count ≡ length (predecessors_of g node) → more_free ≡ cond (eqb count 0) (free ++ node ∷ []) free → IsStart g (remaining ++ count ∷ []) more_free (node + 1)
start-more g remaining free more_free node count s is free_is = record {
  long = omega (arith, length_push remaining count, s.long);
  counts = λ k h. elim (cases_eq k node) [
    | inl here ↦ rw here (last ∙ is)
    | inr other ↦ early k (omega arith) ∙ s.counts k (omega arith)
  ];
  free_zero = λ k c. by_test (eqb count 0) refl k (rw free_is at c);
  ready = λ k h z. elim (cases_eq k node) [
    | inl here ↦
        let zero_count : count ≡ 0 = sym last ∙ (rw here at z) in
        let test : eqb count 0 ≡ true = eq-eqb count 0 zero_count in
        rw (free_is, test, here) (Contains-push free node)
    | inr other ↦ rw free_is (kept (eqb count 0) k (s.ready k (omega arith) (sym (early k (omega arith)) ∙ z)))
  ];
}
  where
    last : slice_index (remaining ++ count ∷ []) node ≡ count
    last = get_or_push remaining count 0 node s.long

    early : (k : ℕ) → k < node → slice_index (remaining ++ count ∷ []) k ≡ slice_index remaining k
    early k h = get_or_append_left remaining (count ∷ []) 0 k (omega (arith, s.long))

    kept : (b : Bool) (k : ℕ) → Contains free k → Contains (cond b (free ++ node ∷ []) free) k
    kept true k c = Contains-append_left free (node ∷ []) k c
    kept false k c = c

    old : (k : ℕ) → Contains free k → (k < node + 1) × (slice_index (remaining ++ count ∷ []) k ≡ 0)
    old k c = let below : k < node = (s.free_zero k c).0 in (omega arith, early k below ∙ (s.free_zero k c).1)

    by_test : (b : Bool) → eqb count 0 ≡ b → (k : ℕ) → Contains (cond b (free ++ node ∷ []) free) k → (k < node + 1) × (slice_index (remaining ++ count ∷ []) k ≡ 0)
    by_test true test k c = elim (Contains-push_cases free node k c) [
      | inl early_one ↦ old k early_one
      | inr here ↦ (omega arith, rw (← here) (last ∙ eqb-true count 0 test))
    ]
    by_test false test k c = old k c

no_predecessors : (g : Digraph) (s : ℕ) → IsWithin g.nodes g.edges → g.nodes ≤ s → (xs : List ℕ) → xs ≡ predecessors_of g s → xs ≡ []
no_predecessors g s w h [] e = refl
no_predecessors g s w h (x ∷ xs) e =
    let inside : s < g.nodes = target_inside g x s w (edge-from_source g.edges s x (rw (← e) (contains_head x x xs refl))) in
    absurd (omega arith)

pub start-done : (g : Digraph) (remaining free : List ℕ) → IsWithin g.nodes g.edges → IsStart g remaining free g.nodes → IsRemoval g (replicate g.nodes true) remaining free []
unfolding count_left times
start-done g remaining free w s = record {
  left_length = length-replicate g.nodes true;
  remaining_length = s.long;
  counts = λ k. elim (cases_lt k g.nodes) [
    | inl below ↦
        let all : count_left (replicate g.nodes true) (predecessors_of g k) ≡ length (predecessors_of g k) =
        all-counted (replicate g.nodes true) (predecessors_of g k) (λ a c. get_or-replicate g.nodes a true false (source_inside g a k w (edge-from_source g.edges k a c))) in
        let is : slice_index remaining k ≡ length (predecessors_of g k) = s.counts k below in
        omega arith
    | inr past ↦
        let none : predecessors_of g k ≡ [] = no_predecessors g k w past (predecessors_of g k) refl in
        let zero_count : slice_index remaining k ≡ 0 = get_or_past remaining k 0 (omega (arith, s.long)) in
        rw none zero_count
  ];
  gone = λ n h no. absurd (both_ways _ no (get_or-replicate g.nodes n true false h));
  free_zero = s.free_zero;
  ready = λ k h z. inr (s.ready k h z);
}

-- what is read at a free node is whether it is left
pub free-left : (g : Digraph) (left : List Bool) (remaining free : List ℕ) (n : ℕ) (read : Bool) → IsRemoval g left remaining (free ++ n ∷ []) [] → read ≡ get_or left n read → has left n ≡ read
free-left g left remaining free n read r e =
    let inside : n < length left = omega (arith, (r.free_zero n (Contains-push free n)).0, r.left_length) in
    sym (get_or_read left n read inside e false)

-- a free node that is gone already
pub removal-skip : (g : Digraph) (left : List Bool) (remaining free : List ℕ) (n : ℕ) → IsRemoval g left remaining (free ++ n ∷ []) [] → has left n ≡ false → IsRemoval g left remaining free []
removal-skip g left remaining free n r gone = record {
  left_length = r.left_length;
  remaining_length = r.remaining_length;
  counts = r.counts;
  gone = r.gone;
  free_zero = λ s c. r.free_zero s (Contains-append_left free (n ∷ []) s c);
  ready = λ s h z. elim (r.ready s h z) [
    | inl away ↦ inl away
    | inr c ↦ elim (Contains-push_cases free n s c) [ inl old ↦ inr old | inr here ↦ inl (rw (← here) gone) ]
  ];
}

-- a free node goes
pub removal-go : (g : Digraph) (left : List Bool) (remaining free : List ℕ) (n : ℕ) → IsWithin g.nodes g.edges → IsRemoval g left remaining (free ++ n ∷ []) [] → has left n ≡ true → IsRemoval g (set left n false) remaining free (successors_of g n)
removal-go g left remaining free n w r is = record {
  left_length = omega (arith, length-set left n false, r.left_length);
  remaining_length = r.remaining_length;
  counts = λ s.
      let old : slice_index remaining s ≡ count_left left (predecessors_of g s) + times s [] = r.counts s in
      let split : count_left left (predecessors_of g s) ≡ count_left (set left n false) (predecessors_of g s) + times n (predecessors_of g s) =
      count_left-set left n (predecessors_of g s) is below in
      let swapped : times n (predecessors_of g s) ≡ times s (successors_of g n) = times-swapped g.edges n s in
      let none : times s [] ≡ 0 = nothing s in
      omega arith;
  gone = λ k h no. elim (cases_eq k n) [
    | inl here ↦ rw here (ordered-next g n (λ a c. r.gone a (inside a c) (none-from_count left (predecessors_of g n) zero_left a c)))
    | inr other ↦ r.gone k h (sym (get_or-set_other left n k false false other) ∙ no)
  ];
  free_zero = λ s c. r.free_zero s (Contains-append_left free (n ∷ []) s c);
  ready = λ s h z. elim (cases_eq s n) [
    | inl here ↦ inl (rw here (get_or-set_same left n false false below))
    | inr other ↦ elim (r.ready s h z) [
      | inl away ↦ inl (get_or-set_other left n s false false other ∙ away)
      | inr c ↦ elim (Contains-push_cases free n s c) [ inl old ↦ inr old | inr here ↦ absurd (other (sym here)) ]
    ]
  ];
}
  where
    nothing : (s : ℕ) → times s [] ≡ 0
    nothing s = times-nil s

    free_n : (n < g.nodes) × (slice_index remaining n ≡ 0)
    free_n = r.free_zero n (Contains-push free n)

    below : n < length left
    below = omega (arith, free_n.0, r.left_length)

    zero_left : count_left left (predecessors_of g n) ≡ 0
    zero_left = let counted : slice_index remaining n ≡ count_left left (predecessors_of g n) + times n [] = r.counts n in omega (arith, free_n.1)

    inside : (a : ℕ) → Contains (predecessors_of g n) a → a < g.nodes
    inside a c = source_inside g a n w (edge-from_source g.edges n a c)

-- nothing is taken at the start
pub taken-none : (g : Digraph) → IsTaken g (replicate g.nodes true) []
taken-none g = record {
  in_order = order-empty (predecessors_of g);
  gone = λ n h no. absurd (both_ways _ no (get_or-replicate g.nodes n true false h));
  taken = λ n c. absurd (omega (arith, c.1));
}

-- a free node goes behind what is taken
pub taken-go : (g : Digraph) (left : List Bool) (remaining free : List ℕ) (n : ℕ) (order : List ℕ) → IsWithin g.nodes g.edges → IsRemoval g left remaining (free ++ n ∷ []) [] → has left n ≡ true → IsTaken g left order → IsTaken g (set left n false) (order ++ n ∷ [])
taken-go g left remaining free n order w r is t = record {
  in_order = order-grows (predecessors_of g) order n t.in_order (λ c. both_ways (has left n) (t.taken n c).1 is)
      (all_by_contained (λ a. Contains order a) (predecessors_of g n) (λ a c. t.gone a (source_inside g a n w (edge-from_source g.edges n a c)) (none-from_count left (predecessors_of g n) zero_left a c)));
  gone = λ k h no. elim (cases_eq k n) [
    | inl here ↦ rw here (Contains-push order n)
    | inr other ↦ Contains-append_left order (n ∷ []) k (t.gone k h (sym (get_or-set_other left n k false false other) ∙ no))
  ];
  taken = λ k c. elim (Contains-push_cases order n k c) [ inl old ↦ earlier k (t.taken k old) | inr here ↦ rw (← here) (free_n.0, away) ];
}
  where
    free_n : (n < g.nodes) × (slice_index remaining n ≡ 0)
    free_n = r.free_zero n (Contains-push free n)

    below : n < length left
    below = omega (arith, free_n.0, r.left_length)

    away : has (set left n false) n ≡ false
    away = get_or-set_same left n false false below

    zero_left : count_left left (predecessors_of g n) ≡ 0
    zero_left = let counted : slice_index remaining n ≡ count_left left (predecessors_of g n) + times n [] = r.counts n in omega (arith, free_n.1)

    earlier : (k : ℕ) → (k < g.nodes) × (has left k ≡ false) → (k < g.nodes) × (has (set left n false) k ≡ false)
    earlier k old = elim (cases_eq k n) [
      | inl here ↦ (old.0, rw here away)
      | inr other ↦ (old.0, get_or-set_other left n k false false other ∙ old.1)
    ]

-- what is taken in the end is a whole order
pub taken-whole : (g : Digraph) (left : List Bool) (order : List ℕ) → IsStripped g left → IsTaken g left order → IsWholeOrder g order
taken-whole g left order s t = record {
  in_order = t.in_order;
  within = λ n c. (t.taken n c).0;
  whole = λ n o h. elim (cases_Bool (has left n)) [ inl here ↦ absurd (s.kept n here o) | inr away ↦ t.gone n h away ];
}

-- one successor is counted off
pub removal-step : (g : Digraph) (left : List Bool) (remaining more_remaining free more_free due : List ℕ) (s : ℕ) → IsRemoval g left remaining free (s ∷ due) → s < g.nodes → more_remaining ≡ set remaining s (slice_index remaining s - 1) → more_free ≡ cond (eqb (slice_index remaining s) 1) (free ++ s ∷ []) free → IsRemoval g left more_remaining more_free due
removal-step g left remaining more_remaining free more_free due s r inside remaining_is free_is = record {
  left_length = r.left_length;
  remaining_length = rw remaining_is (omega (arith, length-set remaining s (slice_index remaining s - 1), r.remaining_length));
  counts = λ k. elim (cases_eq k s) [
    | inl here ↦
        let head : times s (s ∷ due) ≡ times s due + 1 = times-head s due in
        let counted : slice_index remaining s ≡ count_left left (predecessors_of g s) + times s (s ∷ due) = r.counts s in
        rw (here) (less ∙ (let e : slice_index remaining s - 1 ≡ count_left left (predecessors_of g s) + times s due = omega arith in e))
    | inr other ↦
        let tail : times k (s ∷ due) ≡ times k due = times-tail k s due (λ e. other (sym e)) in
        let counted : slice_index remaining k ≡ count_left left (predecessors_of g k) + times k (s ∷ due) = r.counts k in
        same k other ∙ (let e : slice_index remaining k ≡ count_left left (predecessors_of g k) + times k due = omega arith in e)
  ];
  gone = r.gone;
  free_zero = λ k c. by_test (eqb (slice_index remaining s) 1) refl k (rw free_is at c);
  ready = λ k h z. elim (cases_eq k s) [
    | inl here ↦
        let zero_now : slice_index more_remaining s ≡ 0 = rw here at z in
        let one : slice_index remaining s ≡ 1 = omega (arith, less, some, zero_now) in
        let test : eqb (slice_index remaining s) 1 ≡ true = eq-eqb (slice_index remaining s) 1 one in
        inr (rw (free_is, test, here) (Contains-push free s))
    | inr other ↦ elim (r.ready k h (sym (same k other) ∙ z)) [
      | inl away ↦ inl away
      | inr c ↦ inr (rw free_is (kept (eqb (slice_index remaining s) 1) k c))
    ]
  ];
}
  where
    some : 0 < slice_index remaining s
    some = let counted : slice_index remaining s ≡ count_left left (predecessors_of g s) + times s (s ∷ due) = r.counts s in omega (arith, times-some s due)

    less : slice_index more_remaining s ≡ slice_index remaining s - 1
    less = rw remaining_is (get_or-set_same remaining s (slice_index remaining s - 1) 0 (omega (arith, r.remaining_length, inside)))

    same : (k : ℕ) → (k ≡ s → ⊥) → slice_index more_remaining k ≡ slice_index remaining k
    same k other = rw remaining_is (get_or-set_other remaining s k (slice_index remaining s - 1) 0 other)

    kept : (b : Bool) (k : ℕ) → Contains free k → Contains (cond b (free ++ s ∷ []) free) k
    kept true k c = Contains-append_left free (s ∷ []) k c
    kept false k c = c

    old : (k : ℕ) → Contains free k → (k < g.nodes) × (slice_index more_remaining k ≡ 0)
    old k c = elim (cases_eq k s) [
      | inl here ↦ let z : slice_index remaining s ≡ 0 = rw here at (r.free_zero k c).1 in absurd (omega (arith, some, z))
      | inr other ↦ ((r.free_zero k c).0, same k other ∙ (r.free_zero k c).1)
    ]

    by_test : (b : Bool) → eqb (slice_index remaining s) 1 ≡ b → (k : ℕ) → Contains (cond b (free ++ s ∷ []) free) k → (k < g.nodes) × (slice_index more_remaining k ≡ 0)
    by_test true test k c = elim (Contains-push_cases free s k c) [
      | inl early_one ↦ old k early_one
      | inr here ↦
          let one : slice_index remaining s ≡ 1 = eqb-true (slice_index remaining s) 1 test in
          rw (← here) (inside, less ∙ (let z : slice_index remaining s - 1 ≡ 0 = omega arith in z))
    ]
    by_test false test k c = old k c

left_not_ordered : (g : Digraph) (left : List Bool) (remaining : List ℕ) → IsRemoval g left remaining [] [] → (entries : List ℕ) → IsInOrder (predecessors_of g) entries → (bound i : ℕ) → i < bound → i < length entries → has left (slice_index entries i) ≡ true → ⊥
left_not_ordered g left remaining r entries order zero i below inside h = absurd (omega arith)
left_not_ordered g left remaining r entries order (suc bound) i below inside h =
    let n : ℕ = slice_index entries i in
    let member : n < g.nodes = omega (arith, has_below left n h, r.left_length) in
    let counted : slice_index remaining n ≡ count_left left (predecessors_of g n) + times n [] = r.counts n in
    let none : times n [] ≡ 0 = times-nil n in
    let some : count_left left (predecessors_of g n) ≡ 0 → ⊥ =
    λ z. elim (r.ready n member (let e : slice_index remaining n ≡ 0 = omega arith in e)) [
      | inl away ↦ both_ways (has left n) away h
      | inr c ↦ omega (arith, c.1)
    ] in
    let before_n = some-from_count left (predecessors_of g n) some in
    let a : ℕ = before_n.0 in
    let earlier : Contains (take i entries) a = all_by_at (λ x. Contains (take i entries) x) (predecessors_of g n) a (order.after i inside) before_n.1 in
    let short = length-take i entries in
    let before_i : earlier.0 < i = omega (arith, earlier.1, short) in
    let at : slice_index entries earlier.0 ≡ a =
    get_or_default entries earlier.0 0 a (omega arith) ∙ sym (get_or-take i entries earlier.0 a before_i) ∙ earlier.2 in
    left_not_ordered g left remaining r entries order bound earlier.0 (omega arith) (omega arith) (rw at before_n.2)

-- nothing is free: what is left is in no order
pub removal-done : (g : Digraph) (left : List Bool) (remaining : List ℕ) → IsRemoval g left remaining [] [] → IsStripped g left
removal-done g left remaining r = record {
  length = r.left_length;
  gone = r.gone;
  kept = λ n h o.
      let entries : List ℕ = o.0 in
      let i : ℕ = o.2.0 in
      let at : slice_index entries i ≡ n = get_or_default entries i 0 n o.2.1 ∙ o.2.2 in
      left_not_ordered g left remaining r entries o.1 (i + 1) i (omega arith) o.2.1 (rw at h);
}

-- what is enough before a step is enough after it
pub enough-step : (remaining more_remaining due : List ℕ) (n : ℕ) → ((s : ℕ) → times s (n ∷ due) ≤ slice_index remaining s) → n < length remaining → more_remaining ≡ set remaining n (slice_index remaining n - 1) → (s : ℕ) → times s due ≤ slice_index more_remaining s
enough-step remaining more_remaining due n enough inside is s = elim (cases_eq s n) [
  | inl here ↦
      let head : times n (n ∷ due) ≡ times n due + 1 = times-head n due in
      let had : times n (n ∷ due) ≤ slice_index remaining n = enough n in
      let less : slice_index more_remaining n ≡ slice_index remaining n - 1 = rw is (get_or-set_same remaining n (slice_index remaining n - 1) 0 inside) in
      rw here (let e : times n due ≤ slice_index more_remaining n = omega arith in e)
  | inr other ↦
      let tail : times s (n ∷ due) ≡ times s due = times-tail s n due (λ e. other (sym e)) in
      let had : times s (n ∷ due) ≤ slice_index remaining s = enough s in
      let same : slice_index more_remaining s ≡ slice_index remaining s = rw is (get_or-set_other remaining n s (slice_index remaining n - 1) 0 other) in
      omega arith
]

-- a step makes no more free than it counts off
pub smaller-step : (remaining more_remaining free more_free : List ℕ) (n : ℕ) → n < length remaining → 0 < slice_index remaining n → more_remaining ≡ set remaining n (slice_index remaining n - 1) → more_free ≡ cond (eqb (slice_index remaining n) 1) (free ++ n ∷ []) free → total more_remaining + length more_free ≤ total remaining + length free
smaller-step remaining more_remaining free more_free n inside some is free_is =
    let less : total more_remaining + 1 ≡ total remaining = rw is (total-set remaining n inside some) in
    let at_most : length more_free ≤ length free + 1 = rw free_is (by_test (eqb (slice_index remaining n) 1)) in
    omega arith
  where
    by_test : (b : Bool) → length (cond b (free ++ n ∷ []) free) ≤ length free + 1
    by_test true = omega (arith, length_push free n)
    by_test false = omega arith
