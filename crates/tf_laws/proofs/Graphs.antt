-- What each graph has: a table of what reaches what, and, where there is no cycle, an order of its nodes.
use Rattle.std.proofs.Common.{◌≡◌, ◌∙◌, ◌<◌, ◌≤◌, ◌++◌, ◌↔◌, inl, inr, ℕ, zero, suc, Bool, true, false, List, [], ◌∷◌, length, map, refl, sym, ap, subst, arith}
use Rattle.std.proofs.lemmas.Bool.{cases_eq, cases_lt}
use Rattle.std.proofs.lemmas.List.{get_or_past, get_or_default}
use Rattle.std.proofs.lemmas.List.Elements.{Contains-append_left, Contains-push, Contains-push_cases}
use Rattle.std.proofs.lemmas.List.FromFn.{get_or-map-range_with_len, length-map-range_with_len}
use Rattle.std.specs.List.{AllByRecursion, range_with_len}
use Rattle.std.specs.Prelude.{Contains, slice_index}
use Rattle.tf_graph.proofs.Edges.{contains_head, contains_tail, end_inside, start_inside}
use Rattle.tf_graph.proofs.Orders.{IsApart, contains_or_not, order-empty, pigeonhole}
use Rattle.tf_graph.proofs.Solving.{order-grows}
use Rattle.tf_graph.specs.Closure.{IsClosure, Table, reaches}
use Rattle.tf_graph.specs.Digraph.{Digraph, IsWithin, predecessors_of}
use Rattle.tf_graph.specs.NodeSet.{has}
use Rattle.tf_graph.specs.Order.{IsInOrder}
use Rattle.tf_graph.specs.Path.{Reaches}
use Rattle.tf_graph.specs.Solutions.{Ranked}
use Rattle.tf_graph.specs.Strip.{IsWholeOrder}
use Rattle.tf_laws.proofs.Leading.{IsDecided, tested}

-- ---- a table of what reaches what

module _ (g : Digraph) (decided : (a b : ℕ) → IsDecided (Reaches g a b)) where
  abbrev test : (a b : ℕ) → (t : Bool) × ((t ≡ true) ↔ Reaches g a b)
  test a b = tested (Reaches g a b) (decided a b)

  abbrev row_of : ℕ → List Bool
  row_of a = map (λ b. (test a b).0) (range_with_len 0 g.nodes)

  abbrev pub table_of : Table
  table_of = record { nodes = g.nodes; rows = map row_of (range_with_len 0 g.nodes) }

  cell : (a b : ℕ) → a < g.nodes → b < g.nodes → reaches table_of a b ≡ (test a b).0
  cell a b h k = ap (λ (row : List Bool). has row b) (get_or-map-range_with_len row_of 0 g.nodes a a [] h (omega arith)) ∙ get_or-map-range_with_len (λ n. (test a n).0) 0 g.nodes b b false k (omega arith)

  past_row : (a b : ℕ) → g.nodes ≤ a → reaches table_of a b ≡ false
  past_row a b h =
      let long = length-map-range_with_len row_of 0 g.nodes in
      ap (λ (row : List Bool). has row b) (get_or_past table_of.rows a [] (omega (arith, long, h))) ∙ get_or_past [] b false (omega arith)

  past_end : (a b : ℕ) → a < g.nodes → g.nodes ≤ b → reaches table_of a b ≡ false
  past_end a b h k =
      let long = length-map-range_with_len (λ n. (test a n).0) 0 g.nodes in
      ap (λ (row : List Bool). has row b) (get_or-map-range_with_len row_of 0 g.nodes a a [] h (omega arith)) ∙ get_or_past (row_of a) b false (omega (arith, long, k))

  not_both : (b : Bool) → b ≡ true → b ≡ false → ⊥
  not_both b holds fails = absurd (cc)

  pub is_closure : IsWithin g.nodes g.edges → IsClosure g table_of
  is_closure within = record {
    nodes = refl;
    found = λ a b path. cell a b (start_inside g a b within path) (end_inside g a b within path) ∙ (test a b).1.1 path;
    led = λ a b e. elim (cases_lt a g.nodes) [
      | inr past ↦ absurd (not_both (reaches table_of a b) e (past_row a b past))
      | inl row ↦ elim (cases_lt b g.nodes) [
        | inr past ↦ absurd (not_both (reaches table_of a b) e (past_end a b row past))
        | inl inside ↦ (test a b).1.0 (sym (cell a b row inside) ∙ e)
      ]
    ];
  }

-- ---- an order

module _ (g : Digraph) (stays : (n : ℕ) → AllByRecursion (λ a. a < g.nodes) (predecessors_of g n)) (ranked : Ranked (predecessors_of g)) where
  -- a list in order of nodes alone
  abbrev IsFine : List ℕ → Type 0
  IsFine entries = IsInOrder (predecessors_of g) entries × ((n : ℕ) → Contains entries n → n < g.nodes)

  -- such a list, with a node added to what another holds
  abbrev HasGrown : List ℕ → (List ℕ → Type 0) → Type 0
  HasGrown entries P = (more : List ℕ) × IsFine more × ((k : ℕ) → Contains entries k → Contains more k) × P more

  -- each of some nodes is added, where each can be
  all_grown : (Q : ℕ → Type 0) → ((entries : List ℕ) → IsFine entries → (n : ℕ) → Q n → HasGrown entries (λ more. Contains more n))
      → (nodes entries : List ℕ) → IsFine entries → AllByRecursion Q nodes → HasGrown entries (λ more. AllByRecursion (λ n. Contains more n) nodes)
  all_grown Q add [] entries fine each = (entries, fine, λ k c. c, tt)
  all_grown Q add (n ∷ nodes) entries fine each =
      let rest = all_grown Q add nodes entries fine each.1 in
      let more = add rest.0 rest.1 n each.0 in
      (more.0, more.1, λ k c. more.2 k (rest.2 k c), (more.3, kept rest.0 more.0 more.2 nodes rest.3))
    where
      kept : (xs ys : List ℕ) → ((k : ℕ) → Contains xs k → Contains ys k) → (ks : List ℕ) → AllByRecursion (λ k. Contains xs k) ks → AllByRecursion (λ k. Contains ys k) ks
      kept xs ys f [] h = tt
      kept xs ys f (k ∷ ks) h = (f k h.0, kept xs ys f ks h.1)

  both_all : (bound : ℕ) (xs : List ℕ) → AllByRecursion (λ a. a < g.nodes) xs → AllByRecursion (λ a. ranked.0 a < bound) xs → AllByRecursion (λ a. (a < g.nodes) × (ranked.0 a < bound)) xs
  both_all bound [] h k = tt
  both_all bound (x ∷ xs) h k = ((h.0, k.0), both_all bound xs h.1 k.1)

  lower : (m bound : ℕ) (xs : List ℕ) → m < suc bound → AllByRecursion (λ a. ranked.0 a < m) xs → AllByRecursion (λ a. ranked.0 a < bound) xs
  lower m bound [] h k = tt
  lower m bound (x ∷ xs) h k = (omega (arith, h, k.0), lower m bound xs h k.1)

  pushed : (entries : List ℕ) (n : ℕ) → IsFine entries → n < g.nodes → (Contains entries n → ⊥) → AllByRecursion (λ a. Contains entries a) (predecessors_of g n) → IsFine (entries ++ n ∷ [])
  pushed entries n fine inside new before = (
    order-grows (predecessors_of g) entries n fine.0 new before,
    λ k c. elim (Contains-push_cases entries n k c) [ inl old ↦ fine.1 k old | inr here ↦ subst (λ (m : ℕ). m < g.nodes) here inside ],
  )

  -- a node is added behind all that stands before it
  grown : (bound : ℕ) (entries : List ℕ) → IsFine entries → (n : ℕ) → (n < g.nodes) × (ranked.0 n < bound) → HasGrown entries (λ more. Contains more n)
  grown zero entries fine n low = absurd (omega (arith, low.1))
  grown (suc bound) entries fine n low =
      let before = all_grown (λ a. (a < g.nodes) × (ranked.0 a < bound)) (grown bound) (predecessors_of g n) entries fine
      (both_all bound (predecessors_of g n) (stays n) (lower (ranked.0 n) bound (predecessors_of g n) low.1 (ranked.1 n))) in
      elim (contains_or_not before.0 n) [
        | inl there ↦ (before.0, before.1, before.2, there)
        | inr new ↦ (before.0 ++ n ∷ [], pushed before.0 n before.1 low.0 new before.3, λ k c. Contains-append_left before.0 (n ∷ []) k (before.2 k c), Contains-push before.0 n)
      ]

  all_below : (count : ℕ) → count ≤ g.nodes → (entries : List ℕ) × IsFine entries × ((n : ℕ) → n < count → Contains entries n)
  all_below zero h = ([], (order-empty (predecessors_of g), λ n c. absurd (omega (arith, c.1))), λ n k. absurd (omega (arith, k)))
  all_below (suc count) h =
      let rest = all_below count (omega (arith, h)) in
      let more = grown (suc (ranked.0 count)) rest.0 rest.1 count (omega (arith, h), omega arith) in
      (more.0, more.1, λ n k. elim (cases_eq n count) [ inl here ↦ subst (Contains more.0) (sym here) more.3 | inr other ↦ more.2 n (rest.2 n (omega (arith, k, other))) ])

  pub whole_order : (entries : List ℕ) × IsWholeOrder g entries
  whole_order = let all = all_below g.nodes (omega arith) in (all.0, record { in_order = all.1.0; within = all.1.1; whole = λ n is h. all.2 n h })

-- ---- as many as there are nodes, at most

apart : (xs : List ℕ) → ((i j : ℕ) → i < j → j < length xs → slice_index xs i ≡ slice_index xs j → ⊥) → IsApart xs
apart [] once = tt
apart (x ∷ xs) once = (
  λ c. once 0 (suc c.0) (omega arith) (omega (arith, c.1)) (sym (get_or_default xs c.0 0 x c.1 ∙ c.2)),
  apart xs (λ i j h k e. once (suc i) (suc j) (omega (arith, h)) (omega (arith, k)) e),
)

all_within : (count : ℕ) (xs : List ℕ) → ((n : ℕ) → Contains xs n → n < count) → AllByRecursion (λ x. x < count) xs
all_within count [] h = tt
all_within count (x ∷ xs) h = (h x (contains_head x x xs refl), all_within count xs (λ n c. h n (contains_tail n x xs c)))

pub order_is_short : (g : Digraph) (entries : List ℕ) → IsWholeOrder g entries → length entries ≤ g.nodes
order_is_short g entries is = pigeonhole g.nodes entries (all_within g.nodes entries is.within) (apart entries (λ i j h k e. is.in_order.once i j h k e))
