-- Entries that follow the edges of a graph are in its order.
use Rattle.std.proofs.Common.{◌≡◌, ◌≢◌, ◌∙◌, ◌<◌, ◌&&◌, ◌∷◌, [], ℕ, zero, suc, Bool, true, false, List, length, map, take, filter, refl, sym, subst, arith, cond, inl, inr}
use Rattle.std.specs.Prelude.{nat_eq, Contains, slice_index, ◌==◌}
use Rattle.std.specs.List.{list_all, AllByRecursion}
use Rattle.std.specs.Bool.{Decides}
use Rattle.std.specs.Cmp.{nat_eq_equiv}
use Rattle.std.specs.Cmp.Lexicographic.{pointwise}
use Rattle.std.proofs.lemmas.Bool.{true≢false, eqb-true}
use Rattle.std.proofs.lemmas.Bool.Decides.{eqb_tells}
use Rattle.std.proofs.lemmas.Map.Made.{Contains-tail}
use Rattle.std.proofs.lemmas.Slice.Eq.{slice_eq-Decides}
use Rattle.tf_graph.specs.Digraph.{Digraph, predecessors_of, sources_into}
use Rattle.tf_graph.specs.Order.{IsInOrder}
use Rattle.tf_provider.specs.Entries.{Follows, follows}

in_tail : (x y : ℕ) (xs : List ℕ) → Contains xs y → Contains (x ∷ xs) y
in_tail x y xs h = (suc h.0, omega (arith, h.1), h.2)

at_front : (x : ℕ) (xs : List ℕ) → Contains (x ∷ xs) x
at_front x xs = (0, omega arith, refl)

-- an edge that is followed from the second action on, and whose second end isn't the first action
later : (edge : ℕ × ℕ) (n : ℕ) (actions : List ℕ) → n ≢ edge.1
    → ((j : ℕ) → j < length actions → slice_index actions j ≡ edge.1 → Contains (n ∷ take j actions) edge.0)
    → Follows (n ∷ actions) edge
later edge n actions other step zero below is = absurd (other is)
later edge n actions other step (suc j) below is = step j (omega (arith, below)) is

followed : (actions : List ℕ) (edge : ℕ × ℕ) → follows actions edge ≡ true → Follows actions edge
followed [] edge h = λ i below is. absurd (omega (arith, below))
followed (n ∷ actions) edge h =
    elim (eqb_tells n edge.1) [
      | inl second ↦ absurd (true≢false (sym h ∙ rw second.0 refl))
      | inr other ↦ elim (eqb_tells n edge.0) [
        | inl first ↦ later edge n actions other.1 (λ j below is. subst (Contains (n ∷ take j actions)) first.1 (at_front n (take j actions)))
        | inr apart ↦
            let rest : follows actions edge ≡ true = sym (rw (other.0, apart.0) refl) ∙ h in
            later edge n actions other.1 (λ j below is. in_tail n edge.0 (take j actions) (followed actions edge rest j below is))
      ]
    ]

-- where an edge isn't followed
missed : (actions : List ℕ) (edge : ℕ × ℕ) → follows actions edge ≡ false
    → (i : ℕ) × (i < length actions) × (slice_index actions i ≡ edge.1) × (Contains (take i actions) edge.0 → ⊥)
missed [] edge h = absurd (true≢false h)
missed (n ∷ actions) edge h =
    elim (eqb_tells n edge.1) [
      | inl second ↦ (0, omega arith, second.1, λ c. omega (arith, c.1))
      | inr other ↦ elim (eqb_tells n edge.0) [
        | inl first ↦
            let met : follows (n ∷ actions) edge ≡ true = rw (other.0, first.0) refl in
            absurd (true≢false (sym met ∙ h))
        | inr apart ↦
            let same : follows (n ∷ actions) edge ≡ follows actions edge = rw (other.0, apart.0) refl in
            let rest = missed actions edge (sym same ∙ h) in
            (suc rest.0, omega (arith, rest.1), rest.2, λ c. rest.3 (Contains-tail n (take rest.0 actions) edge.0 apart.1 c))
      ]
    ]

and_left : (x y : Bool) → (x && y) ≡ true → x ≡ true
and_left true y h = refl
and_left false y h = h

and_right : (x y : Bool) → (x && y) ≡ true → y ≡ true
and_right true y h = h
and_right false y h = absurd (true≢false (sym h))

-- what lies directly before an action by some edges is entered before it
abbrev AreBefore : List ℕ → List (ℕ × ℕ) → ℕ → Type 0
AreBefore actions edges i = AllByRecursion (λ a. Contains (take i actions) a) (sources_into edges (slice_index actions i))

-- the same of one edge more, by whether it leads into the action
abbrev with_edge : List ℕ → ℕ × ℕ → List (ℕ × ℕ) → ℕ → Bool → Type 0
with_edge actions e edges i into =
    AllByRecursion (λ a. Contains (take i actions) a) (map (λ e. e.0) (cond into (e ∷ filter (λ e. e.1 == slice_index actions i) edges) (filter (λ e. e.1 == slice_index actions i) edges)))

all-before : (edges : List (ℕ × ℕ)) (actions : List ℕ) (i : ℕ) → i < length actions → list_all (follows actions) edges ≡ true → AreBefore actions edges i
all-before [] actions i below h = tt
all-before (e ∷ edges) actions i below h =
    let rest = all-before edges actions i below (and_right _ _ h) in
    elim (eqb_tells e.1 (slice_index actions i)) [
      | inl same ↦ subst (with_edge actions e edges i) (sym same.0) (followed actions e (and_left _ _ h) i below (sym same.1), rest)
      | inr other ↦ subst (with_edge actions e edges i) (sym other.0) rest
    ]

-- an edge is followed if its first end is entered before each entry of its second
edge-followed : (e : ℕ × ℕ) (edges : List (ℕ × ℕ)) (actions : List ℕ) → ((i : ℕ) → i < length actions → AreBefore actions (e ∷ edges) i) → (b : Bool) → follows actions e ≡ b → follows actions e ≡ true
edge-followed e edges actions h true is = is
edge-followed e edges actions h false is =
    let at = missed actions e is in
    elim (eqb_tells e.1 (slice_index actions at.0)) [
      | inl same ↦ let into = subst (with_edge actions e edges at.0) same.0 (h at.0 at.1) in absurd (at.3 into.0)
      | inr other ↦ absurd (other.1 (sym at.2))
    ]

all-followed : (edges : List (ℕ × ℕ)) (actions : List ℕ) → ((i : ℕ) → i < length actions → AreBefore actions edges i) → list_all (follows actions) edges ≡ true
all-followed [] actions h = refl
all-followed (e ∷ edges) actions h =
    let first = edge-followed e edges actions h (follows actions e) refl in
    let rest = all-followed edges actions (λ i below. elim (eqb_tells e.1 (slice_index actions i)) [
      | inl same ↦ (subst (with_edge actions e edges i) same.0 (h i below)).1
      | inr other ↦ subst (with_edge actions e edges i) other.0 (h i below)
    ]) in
    rw (first, rest) refl

-- entries that follow each edge of a graph, and none of which comes twice, are in its order
pub in_order : (g : Digraph) (own : ℕ → List ℕ) (actions : List ℕ) → IsInOrder own actions → list_all (follows actions) g.edges ≡ true → IsInOrder (predecessors_of g) actions
in_order g own actions allowed h = record {
  once = allowed.once;
  after = λ i below. all-before g.edges actions i below h;
}

-- and entries in the order of a graph follow each edge
pub follows-order : (g : Digraph) (actions : List ℕ) → IsInOrder (predecessors_of g) actions → list_all (follows actions) g.edges ≡ true
follows-order g actions order = all-followed g.edges actions order.after

pair-Decides : (a b : ℕ × ℕ) → Decides (nat_eq a.0 b.0 && nat_eq a.1 b.1) (a ≡ b)
pair-Decides a b = (
  (λ e. let p = eqb-true a.0 b.0 (and_left _ _ e) in let q = eqb-true a.1 b.1 (and_right _ _ e) in λ i. (p i, q i)),
  (λ e. subst (λ (c : ℕ × ℕ). (nat_eq a.0 c.0 && nat_eq a.1 c.1) ≡ true) e (rw (nat_eq_equiv.refl a.0, nat_eq_equiv.refl a.1) refl)),
)

-- edges that compare equal are equal
pub same-edges : (xs ys : List (ℕ × ℕ)) (r : Bool) → r ≡ pointwise (λ (a b : ℕ × ℕ). nat_eq a.0 b.0 && nat_eq a.1 b.1) xs ys → r ≡ true → xs ≡ ys
same-edges xs ys r is e = (slice_eq-Decides pair-Decides xs ys r is).0 e
