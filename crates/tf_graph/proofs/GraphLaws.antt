-- The proofs of the laws on closures and on what is left of a graph, for other proofs to cite.
use Rattle.std.proofs.Common.{◌≡◌, ◌<◌, ◌≤◌, ◌+◌, ◌∷◌, ◌⊎◌, ℕ, zero, suc, Bool, true, false, not, List, [], map, refl, sym, ◌∙◌, arith, length, take, inl, inr}
use Rattle.std.specs.Prelude.{Contains, slice_index}
use Rattle.std.specs.List.{AllByRecursion}
use Rattle.std.proofs.lemmas.Bool.{cases_lt, cases_Bool, both_ways, false_from_ne_true, true_from_ne_false}
use Rattle.std.proofs.lemmas.List.{get_or_past, get_or_default, get_or-take, length-take}
use Rattle.tf_graph.specs.Digraph.{Digraph, IsWithin, predecessors_of}
use Rattle.tf_graph.specs.Path.{direct, onward, HasEdge, Reaches, joined}
use Rattle.tf_graph.specs.NodeSet.{has}
use Rattle.tf_graph.proofs.Edges.{edge-from_source, stands-from_reaches, source_inside, start_inside, end_inside, contains_head, contains_tail, contains_cases}
use Rattle.tf_graph.specs.Closure.{reaches, IsTransitiveOver, ClosureIsLeast, ReachedIsClosed, AcyclicIsRanked}
use Rattle.tf_graph.proofs.Solving.{ranked-by_order, order-follows_paths, all_by_at, all_by_weaker}
use Rattle.std.specs.List.{range_with_len}
use Rattle.std.proofs.lemmas.List.FromFn.{get_or-map-range_with_len, length-map-range_with_len}
use Rattle.tf_graph.proofs.Orders.{holds, contains-from_holds, holds-from_contains, contains_or_not, IsApart, pigeonhole, ordered-next}
use Rattle.tf_graph.specs.Strip.{IsOrdered, IsStripped, IsWholeOrder, WholeOrderHoldsAll, StripIsEmpty, LeftIsBehindCycle}

-- a relation that holds the edges and is transitive holds each path
holds_path : (g : Digraph) (holds : ℕ → ℕ → Bool) → IsTransitiveOver g holds → (a b : ℕ) → Reaches g a b → holds a b ≡ true
holds_path g holds t _ _ (direct a b e) = t.edges a b e
holds_path g holds t _ _ (onward a b c e p) = t.transitive a b c (t.edges a b e) (holds_path g holds t b c p)

pub closure-least : ClosureIsLeast
closure-least g t is = (
  record {
    edges = λ a b e. is.found a b (direct a b e);
    transitive = λ a b c h k. is.found a c (joined a b c (is.led a b h) (is.led b c k));
  },
  λ holds over a b h. holds_path g holds over a b (is.led a b h),
)

pub reached-closed : ReachedIsClosed
reached-closed g t is a b c = (
  λ h e. is.found a c (joined a b c (is.led a b h) (direct b c e)),
  λ e h. is.found a c (onward a b c e (is.led b c h)),
)

-- what holds of each element that a list contains
pub all_from_contained : (P : ℕ → Type 0) (xs : List ℕ) → ((x : ℕ) → Contains xs x → P x) → AllByRecursion P xs
all_from_contained P [] f = tt
all_from_contained P (x ∷ xs) f = (f x (contains_head x x xs refl), all_from_contained P xs (λ y c. f y (contains_tail y x xs c)))

pub acyclic-ranked : AcyclicIsRanked
acyclic-ranked g t within is none =
    ranked-by_order g.nodes (predecessors_of g) (reaches t) (record {
      irreflexive = λ a h. none a;
      transitive = λ a b c h k p q. is.found a c (joined a b c (is.led a b p) (is.led b c q));
      holds = λ n. all_from_contained (λ a. (a < g.nodes) × (reaches t a n ≡ true)) (predecessors_of g n) (λ a c.
          let e : HasEdge g a n = edge-from_source g.edges n a c in
          (source_inside g a n within e, is.found a n (direct a n e)));
    })

-- a node in order does not reach itself
pub ordered-no_cycle : (g : Digraph) (n : ℕ) → IsOrdered g n → Reaches g n n → ⊥
ordered-no_cycle g n (entries, order, (i, inside, is)) p =
    let at : slice_index entries i ≡ n = get_or_default entries i 0 n inside ∙ is in
    let earlier : Contains (take i entries) n =
    order-follows_paths (predecessors_of g) entries order n i inside (rw at (stands-from_reaches g n n p)) in
    let short = length-take i entries in
    let before_i : earlier.0 < i = omega (arith, earlier.1, short) in
    let again : slice_index entries earlier.0 ≡ n =
    get_or_default entries earlier.0 0 n (omega arith) ∙ sym (get_or-take i entries earlier.0 n before_i) ∙ earlier.2 in
    order.once earlier.0 i before_i inside (again ∙ sym at)

-- what reaches a node in order is in order
pub ordered-before : (g : Digraph) (a n : ℕ) → IsOrdered g n → Reaches g a n → IsOrdered g a
ordered-before g a n (entries, order, (i, inside, is)) p =
    let at : slice_index entries i ≡ n = get_or_default entries i 0 n inside ∙ is in
    let earlier : Contains (take i entries) a =
    order-follows_paths (predecessors_of g) entries order a i inside (rw at (stands-from_reaches g a n p)) in
    let short = length-take i entries in
    let before_i : earlier.0 < i = omega (arith, earlier.1, short) in
    (entries, order, (earlier.0, omega arith, sym (get_or-take i entries earlier.0 a before_i) ∙ earlier.2))

-- a left node has one directly before it
pub left-before : (g : Digraph) (left : List Bool) → IsWithin g.nodes g.edges → IsStripped g left → (n : ℕ) → has left n ≡ true → (a : ℕ) × HasEdge g a n × (has left a ≡ true)
left-before g left within stripped n h = elim (some_left (predecessors_of g n)) [
  | inl found ↦ (found.0, edge-from_source g.edges n found.0 found.1, found.2)
  | inr none ↦ absurd (stripped.kept n h (ordered-next g n (λ a c. stripped.gone a (source_inside g a n within (edge-from_source g.edges n a c)) (none a c))))
]
  where
    some_left : (nodes : List ℕ) → ((a : ℕ) × Contains nodes a × (has left a ≡ true)) ⊎ ((a : ℕ) → Contains nodes a → has left a ≡ false)
    some_left [] = inr (λ a c. absurd (omega (arith, c.1)))
    some_left (x ∷ xs) = elim (cases_Bool (has left x)) [
      | inl here ↦ inl (x, contains_head x x xs refl, here)
      | inr gone ↦ elim (some_left xs) [
        | inl later ↦ inl (later.0, contains_tail later.0 x xs later.1, later.2)
        | inr none ↦ inr (λ a c. elim (contains_cases a x xs c) [ inl here ↦ rw (← here) gone | inr rest ↦ none a rest ])
      ]
    ]

reaches_on : (g : Digraph) (a n last : ℕ) → HasEdge g a n → Reaches g n last ⊎ (n ≡ last) → Reaches g a last
reaches_on g a n last e (inl p) = onward a n last e p
reaches_on g a n last e (inr same) = rw (← same) (direct a n e)

-- a walk back along left nodes comes to one that it has seen
cycle_back : (g : Digraph) (left : List Bool) → IsWithin g.nodes g.edges → IsStripped g left → (last : ℕ) (fuel n : ℕ) (visited : List ℕ) → has left n ≡ true → n < g.nodes → AllByRecursion (λ v. v < g.nodes) visited → AllByRecursion (λ v. Reaches g n v) visited → IsApart visited → g.nodes ≤ length visited + fuel → Reaches g n last ⊎ (n ≡ last) → (c : ℕ) × Reaches g c c × (Reaches g c last ⊎ (c ≡ last))
cycle_back g left within stripped last zero n visited is below all_below all_reached apart enough leads = elim (contains_or_not visited n) [
  | inl seen ↦ (n, all_by_at (λ v. Reaches g n v) visited n all_reached seen, leads)
  | inr new ↦ let few : length (n ∷ visited) ≤ g.nodes = pigeonhole g.nodes (n ∷ visited) (below, all_below) (new, apart) in absurd (omega arith)
]
cycle_back g left within stripped last (suc fuel) n visited is below all_below all_reached apart enough leads = elim (contains_or_not visited n) [
  | inl seen ↦ (n, all_by_at (λ v. Reaches g n v) visited n all_reached seen, leads)
  | inr new ↦
      let earlier = left-before g left within stripped n is in
      let a : ℕ = earlier.0 in
      let e : HasEdge g a n = earlier.1 in
      cycle_back g left within stripped last fuel a (n ∷ visited) earlier.2 (source_inside g a n within e) (below, all_below)
      (direct a n e, all_by_weaker (λ v. Reaches g n v) (λ v. Reaches g a v) visited (λ v p. onward a n v e p) all_reached)
      (new, apart) (omega arith)
      (inl (reaches_on g a n last e leads))
]

-- a member is below the count
pub has_below : (members : List Bool) (k : ℕ) → has members k ≡ true → k < length members
has_below members k h = elim (cases_lt k (length members)) [
  | inl below ↦ below
  | inr past ↦ absurd (both_ways (has members k) (get_or_past members k false past) h)
]

pub left-behind_cycle : LeftIsBehindCycle
left-behind_cycle g left within stripped n = (
  λ h. cycle_back g left within stripped n g.nodes n [] h (omega (arith, has_below left n h, stripped.length)) tt tt tt (omega arith) (inr refl),
  λ c. true_from_ne_false (has left n) (λ no. elim c.2 [
    | inl p ↦ ordered-no_cycle g c.0 (ordered-before g c.0 n (stripped.gone n (end_inside g c.0 n within p) no) p) c.1
    | inr same ↦ ordered-no_cycle g c.0 (rw same (stripped.gone n (rw same at (start_inside g c.0 c.0 within c.1)) no)) c.1
  ]),
)

pub strip-empty : StripIsEmpty
strip-empty g left within stripped = (
  λ none n p. ordered-no_cycle g n (stripped.gone n (start_inside g n n within p) (none n)) p,
  λ acyclic n. false_from_ne_true (has left n) (λ h.
      let c = (left-behind_cycle g left within stripped n).0 h in
      acyclic c.0 c.1),
)

-- the nodes that a list does not hold
left_out : Digraph → List ℕ → List Bool
left_out g entries = map (λ k. not (holds entries k)) (range_with_len 0 g.nodes)

not-true : (b : Bool) → not b ≡ true → b ≡ false
not-true true h = sym h
not-true false h = refl

not-false : (b : Bool) → not b ≡ false → b ≡ true
not-false true h = refl
not-false false h = sym h

whole-stripped : (g : Digraph) (entries : List ℕ) → IsWholeOrder g entries → IsStripped g (left_out g entries)
unfolding left_out
whole-stripped g entries w = record {
  length = length-map-range_with_len (λ k. not (holds entries k)) 0 g.nodes;
  gone = λ n h no. (entries, w.in_order, contains-from_holds entries n (not-false (holds entries n) (sym (read n h) ∙ no)));
  kept = λ n yes o.
      let long = length-map-range_with_len (λ k. not (holds entries k)) 0 g.nodes in
      let h : n < g.nodes = omega (arith, has_below (left_out g entries) n yes, long) in
      both_ways (holds entries n) (not-true (holds entries n) (sym (read n h) ∙ yes)) (holds-from_contains entries n (w.whole n o h));
}
  where
    read : (n : ℕ) → n < g.nodes → has (map (λ k. not (holds entries k)) (range_with_len 0 g.nodes)) n ≡ not (holds entries n)
    read n h = get_or-map-range_with_len (λ k. not (holds entries k)) 0 g.nodes n n false h (omega arith)

pub whole_order-all : WholeOrderHoldsAll
whole_order-all g entries within acyclic w n h =
    let s = whole-stripped g entries w in
    w.whole n (s.gone n h ((strip-empty g (left_out g entries) within s).1 acyclic n)) h
