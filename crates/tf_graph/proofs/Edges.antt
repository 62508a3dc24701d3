-- The edges of a graph, and the neighbours of its nodes: each says the same as the other.
use Rattle.std.proofs.Common.{◌≡◌, ◌==◌, ◌<◌, ◌⊎◌, ◌∷◌, [], ℕ, zero, suc, List, Bool, true, false, cond, length, map, filter, refl, ap, ◌∙◌, subst, arith, eqb, inl, inr}
use Rattle.std.specs.Prelude.{Contains}
use Rattle.std.specs.List.{AllByRecursion}
use Rattle.std.proofs.lemmas.Bool.{eqb-true, eq-eqb}
use Rattle.std.proofs.lemmas.List.{get_or_default}
use Rattle.tf_graph.specs.Digraph.{Digraph, IsWithin, edge_at, sources_into, targets_from, predecessors_of}
use Rattle.tf_graph.specs.Path.{Path, direct, onward, HasEdge, Reaches, StandsBefore}
use Rattle.tf_graph.specs.Solutions.{StaysBelow}

pub contains_head : {X : Type 0} → (x y : X) (xs : List X) → y ≡ x → Contains (y ∷ xs) x
contains_head x y xs e = (0, omega arith, e)

pub contains_tail : {X : Type 0} → (x y : X) (xs : List X) → Contains xs x → Contains (y ∷ xs) x
contains_tail x y xs (k, h, e) = (suc k, omega arith, e)

pub contains_cases : {X : Type 0} → (x y : X) (xs : List X) → Contains (y ∷ xs) x → (y ≡ x) ⊎ Contains xs x
contains_cases x y xs (zero, h, e) = inl e
contains_cases x y xs (suc k, h, e) = inr (k, omega arith, e)

pair_is : (e : ℕ × ℕ) (a b : ℕ) → e.0 ≡ a → e.1 ≡ b → e ≡ (a, b)
pair_is e a b p q = rw (← p, ← q) refl

-- one end of each edge whose other end is a node
abbrev picked : (ℕ × ℕ → ℕ) → (ℕ × ℕ → ℕ) → List (ℕ × ℕ) → ℕ → List ℕ
picked at other edges n = map other (filter (λ (x : ℕ × ℕ). at x == n) edges)

edge-from_picked : (at other : ℕ × ℕ → ℕ) (edges : List (ℕ × ℕ)) (n t : ℕ) → Contains (picked at other edges n) t → (e : ℕ × ℕ) × Contains edges e × (at e ≡ n) × (other e ≡ t)
edge-from_picked at other [] n t c = absurd (omega (arith, c.1))
edge-from_picked at other (e ∷ edges) n t c = by_test (edge-from_picked at other edges n t) (eqb (at e) n) refl c
  where
    later : ((x : ℕ × ℕ) × Contains edges x × (at x ≡ n) × (other x ≡ t)) → (x : ℕ × ℕ) × Contains (e ∷ edges) x × (at x ≡ n) × (other x ≡ t)
    later (x, there, is, gives) = (x, contains_tail x e edges there, is, gives)

    by_test : (Contains (picked at other edges n) t → (x : ℕ × ℕ) × Contains edges x × (at x ≡ n) × (other x ≡ t)) → (b : Bool) → eqb (at e) n ≡ b
        → Contains (map other (cond b (e ∷ filter (λ (x : ℕ × ℕ). at x == n) edges) (filter (λ (x : ℕ × ℕ). at x == n) edges))) t → (x : ℕ × ℕ) × Contains (e ∷ edges) x × (at x ≡ n) × (other x ≡ t)
    by_test again true is d = elim (contains_cases t (other e) (picked at other edges n) d) [
      | inl here ↦ (e, contains_head e e edges refl, eqb-true (at e) n is, here)
      | inr rest ↦ later (again rest)
    ]
    by_test again false is d = later (again d)

picked-from_edge : (at other : ℕ × ℕ → ℕ) (edges : List (ℕ × ℕ)) (n : ℕ) (x : ℕ × ℕ) → at x ≡ n → Contains edges x → Contains (picked at other edges n) (other x)
picked-from_edge at other [] n x own c = absurd (omega (arith, c.1))
picked-from_edge at other (e ∷ edges) n x own c = by_test (picked-from_edge at other edges n x own) (eqb (at e) n) refl (contains_cases x e edges c)
  where
    by_test : (Contains edges x → Contains (picked at other edges n) (other x)) → (b : Bool) → eqb (at e) n ≡ b → (e ≡ x) ⊎ Contains edges x
        → Contains (map other (cond b (e ∷ filter (λ (y : ℕ × ℕ). at y == n) edges) (filter (λ (y : ℕ × ℕ). at y == n) edges))) (other x)
    by_test again true is (inl same) = contains_head (other x) (other e) (picked at other edges n) (ap other same)
    by_test again true is (inr rest) = contains_tail (other x) (other e) (picked at other edges n) (again rest)
    by_test again false is (inl same) = let no : eqb (at e) n ≡ true = eq-eqb (at e) n (ap at same ∙ own) in cc
    by_test again false is (inr rest) = again rest

pub edge-from_target : (edges : List (ℕ × ℕ)) (n t : ℕ) → Contains (targets_from edges n) t → Contains edges (n, t)
edge-from_target edges n t c =
    let p = edge-from_picked (λ x. x.0) (λ x. x.1) edges n t c in subst (λ x. Contains edges x) (pair_is p.0 n t p.2 p.3) p.1

pub target-from_edge : (edges : List (ℕ × ℕ)) (n t : ℕ) → Contains edges (n, t) → Contains (targets_from edges n) t
target-from_edge edges n t c = picked-from_edge (λ x. x.0) (λ x. x.1) edges n (n, t) refl c

pub edge-from_source : (edges : List (ℕ × ℕ)) (n s : ℕ) → Contains (sources_into edges n) s → Contains edges (s, n)
edge-from_source edges n s c =
    let p = edge-from_picked (λ x. x.1) (λ x. x.0) edges n s c in subst (λ x. Contains edges x) (pair_is p.0 s n p.3 p.2) p.1

pub source-from_edge : (edges : List (ℕ × ℕ)) (n s : ℕ) → Contains edges (s, n) → Contains (sources_into edges n) s
source-from_edge edges n s c = picked-from_edge (λ x. x.1) (λ x. x.0) edges n (s, n) refl c

-- a path by edges is a path by what stands directly before each node, and the other way round
pub stands-from_reaches : (g : Digraph) (a b : ℕ) → Reaches g a b → Path (StandsBefore (predecessors_of g)) a b
stands-from_reaches g _ _ (direct a b e) = direct a b (source-from_edge g.edges b a e)
stands-from_reaches g _ _ (onward a b c e p) = onward a b c (source-from_edge g.edges b a e) (stands-from_reaches g b c p)

pub reaches-from_stands : (g : Digraph) (a b : ℕ) → Path (StandsBefore (predecessors_of g)) a b → Reaches g a b
reaches-from_stands g _ _ (direct a b e) = direct a b (edge-from_source g.edges b a e)
reaches-from_stands g _ _ (onward a b c e p) = onward a b c (edge-from_source g.edges b a e) (reaches-from_stands g b c p)

-- both ends of an edge are nodes
inside : (part : ℕ × ℕ → ℕ) (nodes : ℕ) (edges : List (ℕ × ℕ)) (e : ℕ × ℕ) → ((i : ℕ) → i < length edges → part (edge_at edges i) < nodes) → Contains edges e → part e < nodes
inside part nodes edges e below (k, h, is) = subst (λ x. part x < nodes) (get_or_default edges k (0, 0) e h ∙ is) (below k h)

pub source_inside : (g : Digraph) (a b : ℕ) → IsWithin g.nodes g.edges → HasEdge g a b → a < g.nodes
source_inside g a b w e = inside (λ x. x.0) g.nodes g.edges (a, b) w.source_below e

pub target_inside : (g : Digraph) (a b : ℕ) → IsWithin g.nodes g.edges → HasEdge g a b → b < g.nodes
target_inside g a b w e = inside (λ x. x.1) g.nodes g.edges (a, b) w.target_below e

-- so are both ends of a path
pub start_inside : (g : Digraph) (a b : ℕ) → IsWithin g.nodes g.edges → Reaches g a b → a < g.nodes
start_inside g _ _ w (direct a b e) = source_inside g a b w e
start_inside g _ _ w (onward a b c e p) = source_inside g a b w e

pub end_inside : (g : Digraph) (a b : ℕ) → IsWithin g.nodes g.edges → Reaches g a b → b < g.nodes
end_inside g _ _ w (direct a b e) = target_inside g a b w e
end_inside g _ _ w (onward a b c e p) = end_inside g b c w p

-- what stands directly before a node is a node
pub all_by_contained : (P : ℕ → Type 0) (xs : List ℕ) → ((x : ℕ) → Contains xs x → P x) → AllByRecursion P xs
all_by_contained P [] f = tt
all_by_contained P (x ∷ xs) f = (f x (contains_head x x xs refl), all_by_contained P xs (λ y c. f y (contains_tail y x xs c)))

pub predecessors-within : (g : Digraph) → IsWithin g.nodes g.edges → (n : ℕ) → AllByRecursion (λ a. a < g.nodes) (predecessors_of g n)
predecessors-within g w n = all_by_contained (λ a. a < g.nodes) (predecessors_of g n) (λ a c. source_inside g a n w (edge-from_source g.edges n a c))

pub predecessors-stay_below : (g : Digraph) → IsWithin g.nodes g.edges → StaysBelow g.nodes (predecessors_of g)
predecessors-stay_below g w n h = predecessors-within g w n
