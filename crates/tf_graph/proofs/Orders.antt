-- Lists in order: two of them are one, and a node whose predecessors are in order is in order.
use Rattle.std.proofs.Common.{◌≡◌, ◌<◌, ◌≤◌, ◌∷◌, ◌++◌, ◌⊎◌, ◌||◌, ℕ, zero, suc, Bool, true, false, List, [], refl, arith, length, take, inl, inr, eqb, add-one}
use Rattle.std.specs.Prelude.{Contains, slice_index}
use Rattle.std.specs.List.{AllByRecursion}
use Rattle.std.proofs.lemmas.Bool.{cases_Bool, both_ways, eqb-true, eq-eqb, or_cases, or_left, or_right}
use Rattle.std.proofs.lemmas.List.{take_more, take_all}
use Rattle.std.proofs.lemmas.List.Elements.{Contains-push_cases, Contains-append_left, Contains-push}
use Rattle.tf_graph.specs.Digraph.{Digraph, predecessors_of}
use Rattle.tf_graph.proofs.Edges.{contains_head, contains_tail, contains_cases}
use Rattle.tf_graph.specs.Order.{IsInOrder}
use Rattle.tf_graph.proofs.Solving.{order-grows, all_by_weaker, passing_below, passing_below-lt, passing_below-most}
use Rattle.tf_graph.specs.Strip.{IsOrdered}

-- whether a list holds a number
pub holds : List ℕ → ℕ → Bool
holds [] n = false
holds (x ∷ xs) n = eqb x n || holds xs n

pub contains-from_holds : (xs : List ℕ) (n : ℕ) → holds xs n ≡ true → Contains xs n
unfolding holds
contains-from_holds [] n h = absurd (both_ways false refl h)
contains-from_holds (x ∷ xs) n h = elim (or_cases (eqb x n) (holds xs n) h) [
  | inl here ↦ contains_head n x xs (eqb-true x n here)
  | inr rest ↦ contains_tail n x xs (contains-from_holds xs n rest)
]

pub holds-from_contains : (xs : List ℕ) (n : ℕ) → Contains xs n → holds xs n ≡ true
unfolding holds
holds-from_contains [] n c = absurd (omega (arith, c.1))
holds-from_contains (x ∷ xs) n c = elim (contains_cases n x xs c) [
  | inl here ↦ or_left (eqb x n) (holds xs n) (eq-eqb x n here)
  | inr rest ↦ or_right (eqb x n) (holds xs n) (holds-from_contains xs n rest)
]

-- a list holds a number, or it doesn't
pub contains_or_not : (xs : List ℕ) (n : ℕ) → Contains xs n ⊎ (Contains xs n → ⊥)
contains_or_not xs n = elim (cases_Bool (holds xs n)) [
  | inl held ↦ inl (contains-from_holds xs n held)
  | inr absent ↦ inr (λ c. both_ways (holds xs n) absent (holds-from_contains xs n c))
]

-- no element stands in the list again
abbrev pub IsApart : List ℕ → Type 0
IsApart [] = Unit {0}
IsApart (x ∷ xs) = (Contains xs x → ⊥) × IsApart xs

held_below : (n : ℕ) (xs : List ℕ) → AllByRecursion (λ x. x < n) xs → IsApart xs → length xs ≤ passing_below (holds xs) n
unfolding holds
held_below n [] h a = omega arith
held_below n (x ∷ xs) h a =
    let rest : length xs ≤ passing_below (holds xs) n = held_below n xs h.1 a.1 in
    let new : holds xs x ≡ false = absent (holds xs x) (λ yes. a.0 (contains-from_holds xs x yes)) in
    let more : passing_below (holds xs) n < passing_below (holds (x ∷ xs)) n =
    passing_below-lt (holds xs) (holds (x ∷ xs)) n x (λ k l e. or_right (eqb x k) (holds xs k) e) h.0 new (or_left (eqb x x) (holds xs x) (eq-eqb x x refl)) in
    omega arith
  where
    absent : (b : Bool) → (b ≡ true → ⊥) → b ≡ false
    absent true f = absurd (f refl)
    absent false f = refl

-- at most n numbers are below n
pub pigeonhole : (n : ℕ) (xs : List ℕ) → AllByRecursion (λ x. x < n) xs → IsApart xs → length xs ≤ n
pigeonhole n xs h a =
    let some : length xs ≤ passing_below (holds xs) n = held_below n xs h a in
    let most : passing_below (holds xs) n ≤ n = passing_below-most (holds xs) n in
    omega arith

-- a list in order that holds all of two lists
abbrev pub IsMerged : (ℕ → List ℕ) → List ℕ → List ℕ → Type 0
IsMerged before xs ys = (zs : List ℕ) × IsInOrder before zs × ((n : ℕ) → Contains xs n → Contains zs n) × ((n : ℕ) → Contains ys n → Contains zs n)

merged_so_far : (before : ℕ → List ℕ) (xs ys : List ℕ) → IsInOrder before xs → IsInOrder before ys → (k : ℕ) → k ≤ length ys → IsMerged before xs (take k ys)
merged_so_far before xs ys p q zero h = (xs, p, λ n c. c, λ n c. absurd (omega (arith, c.1)))
merged_so_far before xs ys p q (suc k) h =
    let m : IsMerged before xs (take k ys) = merged_so_far before xs ys p q k (omega arith) in
    let y : ℕ = slice_index ys k in
    let next : take (suc k) ys ≡ take k ys ++ y ∷ [] = rw (← add-one k) (take_more ys k 0 (omega arith)) in
    let all_earlier : AllByRecursion (λ a. Contains m.0 a) (before y) = all_by_weaker _ (λ a. Contains m.0 a) (before y) (λ a c. m.3 a c) (q.after k (omega arith)) in
    elim (contains_or_not m.0 y) [
      | inl there ↦ (m.0, m.1, m.2, λ n c. elim (Contains-push_cases (take k ys) y n (rw next at c)) [ inl old ↦ m.3 n old | inr here ↦ rw (← here) there ])
      | inr new ↦ (
        m.0 ++ y ∷ [],
        order-grows before m.0 y m.1 new all_earlier,
        λ n c. Contains-append_left m.0 (y ∷ []) n (m.2 n c),
        λ n c. elim (Contains-push_cases (take k ys) y n (rw next at c)) [
          | inl old ↦ Contains-append_left m.0 (y ∷ []) n (m.3 n old)
          | inr here ↦ rw (← here) (Contains-push m.0 y)
        ],
      )
    ]

-- two lists in order are one
pub order-merged : (before : ℕ → List ℕ) (xs ys : List ℕ) → IsInOrder before xs → IsInOrder before ys → IsMerged before xs ys
order-merged before xs ys p q =
    let m : IsMerged before xs (take (length ys) ys) = merged_so_far before xs ys p q (length ys) (omega arith) in
    rw (take_all (length ys) ys (omega arith)) at m

-- the empty list is in order
pub order-empty : (before : ℕ → List ℕ) → IsInOrder before []
order-empty before = record { once = λ i j l m. absurd (omega arith); after = λ i l. absurd (omega arith) }

all_in_one : (g : Digraph) (nodes : List ℕ) → ((a : ℕ) → Contains nodes a → IsOrdered g a) → (entries : List ℕ) × IsInOrder (predecessors_of g) entries × ((a : ℕ) → Contains nodes a → Contains entries a)
all_in_one g [] f = ([], order-empty (predecessors_of g), λ a c. c)
all_in_one g (n ∷ nodes) f =
    let rest = all_in_one g nodes (λ a c. f a (contains_tail a n nodes c)) in
    let first : IsOrdered g n = f n (contains_head n n nodes refl) in
    let m : IsMerged (predecessors_of g) rest.0 first.0 = order-merged (predecessors_of g) rest.0 first.0 rest.1 first.1 in
    (m.0, m.1, λ a c. elim (contains_cases a n nodes c) [ inl here ↦ rw (← here) (m.3 n first.2) | inr late ↦ m.2 a (rest.2 a late) ])

-- a node is in order where all that stands directly before it is
pub ordered-next : (g : Digraph) (n : ℕ) → ((a : ℕ) → Contains (predecessors_of g n) a → IsOrdered g a) → IsOrdered g n
ordered-next g n f =
    let all = all_in_one g (predecessors_of g n) f in
    elim (contains_or_not all.0 n) [
      | inl there ↦ (all.0, all.1, there)
      | inr new ↦ (all.0 ++ n ∷ [], order-grows (predecessors_of g) all.0 n all.1 new (all_here all.0 (predecessors_of g n) all.2), Contains-push all.0 n)
    ]
  where
    all_here : (entries nodes : List ℕ) → ((a : ℕ) → Contains nodes a → Contains entries a) → AllByRecursion (λ a. Contains entries a) nodes
    all_here entries [] h = tt
    all_here entries (x ∷ xs) h = (h x (contains_head x x xs refl), all_here entries xs (λ a c. h a (contains_tail a x xs c)))
