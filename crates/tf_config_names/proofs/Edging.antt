-- The edges of the graph of names: one into each name from each that it refers to.
use Rattle.std.proofs.Common.{◌≡◌, ◌==◌, ◌<◌, ◌≤◌, ◌+◌, ℕ, zero, suc, Bool, true, false, cond, eqb, Option, None, Some, option_map, List, [], ◌∷◌, ◌++◌, length, map, filter, get_or, inl, inr, refl, sym, ap, ◌∙◌, arith}
use Rattle.std.proofs.lemmas.Bool.{cases_eq, cases_lt, eq-eqb, ne_eqb}
use Rattle.std.specs.List.{AllByRecursion}
use Rattle.tf_config_data.specs.Names.{NameView, same_pair, place_of, place_before, places, meant_at, refers_at, directly_before}
use Rattle.tf_graph.specs.Digraph.{IsWithin, HasOutside, edge_at, sources_into}
use Rattle.tf_config_names.specs.Edges.{edges_into}
use Rattle.tf_expr_syntax.specs.TemplateNames.{Pair}

-- a place is below the count of the names
pub place_of-below : (names : List NameView) (pair : Pair) (k : ℕ) → place_of names pair ≡ Some k → k < length names
place_of-below [] pair k h = absurd (cc)
place_of-below (n ∷ ns) pair k h = by_test (same_pair n.name pair) (place_of ns pair) (place_of-below ns pair) h
  where
    by_test : (b : Bool) (o : Option ℕ) → ((j : ℕ) → o ≡ Some j → j < length ns) → cond b (Some zero) (option_map suc o) ≡ Some k → k < length (n ∷ ns)
    by_test true o rest e = let same : 0 ≡ k = cc in omega arith
    by_test false None rest e = absurd (cc)
    by_test false (Some j) rest e = let same : suc j ≡ k = cc in let below : j < length ns = rest j refl in omega arith

pub places-below : (names : List NameView) (pairs : List Pair) → AllByRecursion (λ k. k < length names) (places names pairs)
places-below names [] = tt
places-below names (pair ∷ pairs) = by_place (place_of names pair) (place_of-below names pair) (places-below names pairs)
  where
    by_place : (o : Option ℕ) → ((k : ℕ) → o ≡ Some k → k < length names) → AllByRecursion (λ k. k < length names) (places names pairs) → AllByRecursion (λ k. k < length names) (place_before o (places names pairs))
    by_place None h rest = rest
    by_place (Some k) h rest = (h k refl, rest)

-- nothing stands before what is no name
meant_at-past : (names : List NameView) (n : ℕ) → length names ≤ n → meant_at names n ≡ None
meant_at-past [] n h = refl
meant_at-past (name ∷ names) zero h = absurd (omega arith)
meant_at-past (name ∷ names) (suc n) h = meant_at-past names n (omega arith)

pub before-past : (names : List NameView) (n : ℕ) → length names ≤ n → directly_before names n ≡ []
before-past names n h = rw (meant_at-past names n h) refl

-- both ends of each edge are below a count
abbrev pub AreWithin : ℕ → List (ℕ × ℕ) → Type 0
AreWithin count edges = AllByRecursion (λ e. (e.0 < count) × (e.1 < count)) edges

all_append : {A : Type 0} (P : A → Type 0) (xs ys : List A) → AllByRecursion P xs → AllByRecursion P ys → AllByRecursion P (xs ++ ys)
all_append P [] ys h k = k
all_append P (x ∷ xs) ys h k = (h.0, all_append P xs ys h.1 k)

edges_into-within : (count target : ℕ) (sources : List ℕ) → target < count → AllByRecursion (λ k. k < count) sources → AreWithin count (edges_into target sources)
edges_into-within count target [] h k = tt
edges_into-within count target (a ∷ sources) h k = ((k.0, h), edges_into-within count target sources h k.1)

at_all : {A : Type 0} (P : A → Type 0) (d : A) (xs : List A) (i : ℕ) → AllByRecursion P xs → i < length xs → P (get_or xs i d)
at_all P d [] i h below = absurd (omega arith)
at_all P d (x ∷ xs) zero h below = h.0
at_all P d (x ∷ xs) (suc i) h below = at_all P d xs i h.1 (omega arith)

pub are-within : (count : ℕ) (edges : List (ℕ × ℕ)) → AreWithin count edges → IsWithin count edges
are-within count edges h = record {
  source_below = λ i below. (at_all (λ (e : ℕ × ℕ). (e.0 < count) × (e.1 < count)) (0, 0) edges i h below).0;
  target_below = λ i below. (at_all (λ (e : ℕ × ℕ). (e.0 < count) × (e.1 < count)) (0, 0) edges i h below).1;
}

pub none-outside : (count : ℕ) (edges : List (ℕ × ℕ)) → AreWithin count edges → HasOutside count edges → ⊥
none-outside count edges h (i, below, out) =
    let both = at_all (λ (e : ℕ × ℕ). (e.0 < count) × (e.1 < count)) (0, 0) edges i h below in
    elim out [
      | inl source ↦ let b : (edge_at edges i).0 < count = both.0 in omega arith
      | inr target ↦ let b : (edge_at edges i).1 < count = both.1 in omega arith
    ]

-- where edges into a name come from
abbrev picked : List (ℕ × ℕ) → ℕ → List (ℕ × ℕ)
picked edges n = filter (λ (e : ℕ × ℕ). e.1 == n) edges

sources_into-append : (xs ys : List (ℕ × ℕ)) (n : ℕ) → sources_into (xs ++ ys) n ≡ sources_into xs n ++ sources_into ys n
sources_into-append [] ys n = refl
sources_into-append (x ∷ xs) ys n = by_test (eqb x.1 n) (sources_into-append xs ys n)
  where
    by_test : (b : Bool) → sources_into (xs ++ ys) n ≡ sources_into xs n ++ sources_into ys n
        → map (λ (e : ℕ × ℕ). e.0) (cond b (x ∷ picked (xs ++ ys) n) (picked (xs ++ ys) n)) ≡ map (λ (e : ℕ × ℕ). e.0) (cond b (x ∷ picked xs n) (picked xs n)) ++ sources_into ys n
    by_test true rest = ap (λ zs. x.0 ∷ zs) rest
    by_test false rest = rest

sources_into-same : (n : ℕ) (sources : List ℕ) → sources_into (edges_into n sources) n ≡ sources
sources_into-same n [] = refl
sources_into-same n (a ∷ sources) = let yes : eqb n n ≡ true = eq-eqb n n refl in rw yes (ap (λ zs. a ∷ zs) (sources_into-same n sources))

sources_into-other : (n m : ℕ) (sources : List ℕ) → (n ≡ m → ⊥) → sources_into (edges_into n sources) m ≡ []
sources_into-other n m [] h = refl
sources_into-other n m (a ∷ sources) h = let no : eqb n m ≡ false = ne_eqb n m h in rw no (sources_into-other n m sources h)

append_none : (xs : List ℕ) → xs ++ [] ≡ xs
append_none [] = refl
append_none (x ∷ xs) = ap (λ ys. x ∷ ys) (append_none xs)

-- the edges into the first names
pub record AreEdges (names : List NameView) (upto : ℕ) (edges : List (ℕ × ℕ)) : Type 0 where
  pub within : AreWithin (length names) edges
  pub done : (n : ℕ) → n < upto → sources_into edges n ≡ directly_before names n
  pub left : (n : ℕ) → upto ≤ n → sources_into edges n ≡ []

pub edges-none : (names : List NameView) → AreEdges names 0 []
edges-none names = record { within = tt; done = λ n h. absurd (omega arith); left = λ n h. refl }

pub edges-more : (names : List NameView) (upto : ℕ) (edges next : List (ℕ × ℕ)) (before : List ℕ) → upto < length names → before ≡ directly_before names upto → next ≡ edges ++ edges_into upto before → AreEdges names upto edges → AreEdges names (upto + 1) next
edges-more names upto edges next before below is step e = record {
  within = rw (step, is) (all_append (λ (x : ℕ × ℕ). (x.0 < length names) × (x.1 < length names)) edges (edges_into upto (directly_before names upto)) e.within (edges_into-within (length names) upto (directly_before names upto) below (places-below names (refers_at (meant_at names upto)))));
  done = λ n h. rw (step, sources_into-append edges (edges_into upto before) n) (elim (cases_eq upto n) [
    | inl here ↦ rw (← here, e.left upto (omega arith), sources_into-same upto before) is
    | inr other ↦ rw (sources_into-other upto n before other, append_none (sources_into edges n)) (e.done n (omega arith))
  ]);
  left = λ n h. rw (step, sources_into-append edges (edges_into upto before) n, sources_into-other upto n before (λ same. absurd (omega arith)), append_none (sources_into edges n)) (e.left n (omega arith));
}

pub edges-all : (names : List NameView) (upto : ℕ) (edges : List (ℕ × ℕ)) → length names ≤ upto → AreEdges names upto edges → (n : ℕ) → sources_into edges n ≡ directly_before names n
edges-all names upto edges h e n = elim (cases_lt n upto) [
  | inl below ↦ e.done n below
  | inr past ↦ e.left n past ∙ sym (before-past names n (omega arith))
]
