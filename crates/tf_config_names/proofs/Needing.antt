-- Needs of names, and paths among their places: each says the same as the other.
use Rattle.std.proofs.Common.{◌≡◌, ◌⊎◌, ◌&&◌, ℕ, zero, suc, Bool, true, false, cond, Option, None, Some, option_map, IsSome, List, [], ◌∷◌, inl, inr, refl, sym, ap, ◌∙◌, subst, arith}
use Rattle.std.proofs.lemmas.Slice.Eq.{bytes_eq-Decides}
use Rattle.std.proofs.lemmas.Bool.{cases_Bool}
use Rattle.std.specs.Prelude.{Contains}
use Rattle.std.specs.Str.{bytes_eq}
use Rattle.tf_config_data.specs.Names.{NameView, same_pair, place_of, place_before, places, meant_at, refers_at, directly_before}
use Rattle.tf_graph.proofs.Edges.{contains_head, contains_tail, contains_cases, edge-from_source, source-from_edge}
use Rattle.tf_graph.specs.Digraph.{Digraph, predecessors_of}
use Rattle.tf_graph.specs.Path.{direct, onward, HasEdge, Reaches, joined}
use Rattle.tf_config_names.specs.Needs.{meant_by, RefersTo, Needs, is_filled}
use Rattle.tf_expr_syntax.specs.TemplateNames.{Pair}

pub bytes_eq-same : (xs ys : List ℕ) → bytes_eq xs ys ≡ true → xs ≡ ys
bytes_eq-same xs ys h = (bytes_eq-Decides xs ys).0 h

both_true : (a b : Bool) → (a && b) ≡ true → (a ≡ true) × (b ≡ true)
both_true true b h = (refl, h)
both_true false b h = absurd (cc)

-- names that are the same
pub same_pair-same : (p q : Pair) → same_pair p q ≡ true → p ≡ q
same_pair-same p q h =
    let both = both_true (bytes_eq p.0 q.0) (bytes_eq p.1 q.1) h in
    let first : p.0 ≡ q.0 = bytes_eq-same p.0 q.0 both.0 in
    let name : p.1 ≡ q.1 = bytes_eq-same p.1 q.1 both.1 in
    ap (λ x. (x, p.1)) first ∙ ap (λ x. (q.0, x)) name

-- a place is the first, or one further on
pub place_cases : (b : Bool) (o : Option ℕ) (k : ℕ) → cond b (Some zero) (option_map suc o) ≡ Some k → ((b ≡ true) × (k ≡ zero)) ⊎ ((b ≡ false) × ((j : ℕ) × (o ≡ Some j) × (k ≡ suc j)))
place_cases true o k h = inl (refl, cc)
place_cases false None k h = absurd (cc)
place_cases false (Some j) k h = inr (refl, (j, refl, cc))

-- two names at one place are one
pub place_of-one : (names : List NameView) (p q : Pair) (k : ℕ) → place_of names p ≡ Some k → place_of names q ≡ Some k → p ≡ q
place_of-one [] p q k h i = absurd (cc)
place_of-one (n ∷ ns) p q k h i = elim (place_cases (same_pair n.name p) (place_of ns p) k h) [
  | inl first ↦ elim (place_cases (same_pair n.name q) (place_of ns q) k i) [
    | inl other ↦ sym (same_pair-same n.name p first.0) ∙ same_pair-same n.name q other.0
    | inr later ↦ absurd (let e : zero ≡ suc later.1.0 = sym first.1 ∙ later.1.2 in cc)
  ]
  | inr later ↦ elim (place_cases (same_pair n.name q) (place_of ns q) k i) [
    | inl other ↦ absurd (let e : zero ≡ suc later.1.0 = sym other.1 ∙ later.1.2 in cc)
    | inr also ↦
        let e : suc later.1.0 ≡ suc also.1.0 = sym later.1.2 ∙ also.1.2 in
        let same : later.1.0 ≡ also.1.0 = cc in
        place_of-one ns p q also.1.0 (later.1.1 ∙ ap Some same) also.1.1
  ]
]

-- what a name stands for stands at its place
pub meant_by-place : (names : List NameView) (p : Pair) (k : ℕ) → place_of names p ≡ Some k → meant_by names p ≡ meant_at names k
meant_by-place [] p k h = absurd (cc)
meant_by-place (n ∷ ns) p k h = elim (place_cases (same_pair n.name p) (place_of ns p) k h) [
  | inl first ↦ rw (first.0, first.1) refl
  | inr later ↦ rw (later.0, later.1.2) (meant_by-place ns p later.1.0 later.1.1)
]

-- what stands for something is declared
declared : (names : List NameView) (p : Pair) → (meant_by names p ≡ None) ⊎ ((k : ℕ) × (place_of names p ≡ Some k))
declared [] p = inl refl
declared (n ∷ ns) p = elim (cases_Bool (same_pair n.name p)) [
  | inl here ↦ inr (zero, rw here refl)
  | inr other ↦ elim (declared ns p) [
    | inl none ↦ inl (rw other none)
    | inr some ↦ inr (suc some.0, rw (other, some.1) refl)
  ]
]

pub none_contained : {A : Type 0} (x : A) → Contains [] x → ⊥
none_contained x c = absurd (omega (arith, c.1))

pub refers-declared : (names : List NameView) (p q : Pair) → RefersTo names p q → (k : ℕ) × (place_of names p ≡ Some k)
refers-declared names p q r = elim (declared names p) [
  | inl none ↦ absurd (none_contained q (subst (λ m. Contains (refers_at m) q) none r.0))
  | inr some ↦ some
]

pub needs-declared : (names : List NameView) (p q : Pair) → Needs names p q → (k : ℕ) × (place_of names p ≡ Some k)
needs-declared names _ _ (direct p q r) = refers-declared names p q r
needs-declared names _ _ (onward p q s r path) = refers-declared names p q r

some_place : (o : Option ℕ) → IsSome o → (k : ℕ) × (o ≡ Some k)
some_place None h = absurd (cc)
some_place (Some k) h = (k, refl)

-- the place of a name that is named
pub places-from_name : (names : List NameView) (pairs : List Pair) (q : Pair) (b : ℕ) → Contains pairs q → place_of names q ≡ Some b → Contains (places names pairs) b
places-from_name names [] q b c h = absurd (none_contained q c)
places-from_name names (p ∷ pairs) q b c h = by_case (contains_cases q p pairs c) (places-from_name names pairs q b)
  where
    kept : (o : Option ℕ) (ks : List ℕ) → Contains ks b → Contains (place_before o ks) b
    kept None ks d = d
    kept (Some k) ks d = contains_tail b k ks d

    by_case : (p ≡ q) ⊎ Contains pairs q → (Contains pairs q → place_of names q ≡ Some b → Contains (places names pairs) b) → Contains (place_before (place_of names p) (places names pairs)) b
    by_case (inl here) again = subst (λ o. Contains (place_before o (places names pairs)) b) (sym (ap (place_of names) here ∙ h)) (contains_head b b (places names pairs) refl)
    by_case (inr rest) again = kept (place_of names p) (places names pairs) (again rest h)

pub name-from_places : (names : List NameView) (pairs : List Pair) (b : ℕ) → Contains (places names pairs) b → (q : Pair) × Contains pairs q × (place_of names q ≡ Some b)
name-from_places names [] b c = absurd (none_contained b c)
name-from_places names (p ∷ pairs) b c = by_place (place_of names p) refl c (name-from_places names pairs b)
  where
    later : ((q : Pair) × Contains pairs q × (place_of names q ≡ Some b)) → (q : Pair) × Contains (p ∷ pairs) q × (place_of names q ≡ Some b)
    later (q, d, e) = (q, contains_tail q p pairs d, e)

    by_place : (o : Option ℕ) → place_of names p ≡ o → Contains (place_before o (places names pairs)) b → (Contains (places names pairs) b → (q : Pair) × Contains pairs q × (place_of names q ≡ Some b)) → (q : Pair) × Contains (p ∷ pairs) q × (place_of names q ≡ Some b)
    by_place None e d again = later (again d)
    by_place (Some k) e d again = elim (contains_cases b k (places names pairs) d) [
      | inl here ↦ (p, contains_head p p pairs refl, e ∙ ap Some here)
      | inr rest ↦ later (again rest)
    ]

-- a reference by names is one by places
pub before-from_refers : (names : List NameView) (p q : Pair) (a b : ℕ) → place_of names p ≡ Some a → place_of names q ≡ Some b → RefersTo names p q → Contains (directly_before names a) b
before-from_refers names p q a b h i r =
    places-from_name names (refers_at (meant_at names a)) q b (subst (λ m. Contains (refers_at m) q) (meant_by-place names p a h) r.0) i

pub refers-from_before : (names : List NameView) (p q : Pair) (a b : ℕ) → place_of names p ≡ Some a → place_of names q ≡ Some b → Contains (directly_before names a) b → RefersTo names p q
refers-from_before names p q a b h i c =
    let n = name-from_places names (refers_at (meant_at names a)) b c in
    let same : n.0 ≡ q = place_of-one names n.0 q b n.2 i in
    let there : Contains (refers_at (meant_at names a)) q = subst (λ x. Contains (refers_at (meant_at names a)) x) same n.1 in
    (subst (λ m. Contains (refers_at m) q) (sym (meant_by-place names p a h)) there, rw i refl)

module _ (names : List NameView) (g : Digraph) (before : (n : ℕ) → predecessors_of g n ≡ directly_before names n) where
  pub edge-from_before : (a b : ℕ) → Contains (directly_before names a) b → HasEdge g b a
  edge-from_before a b c = edge-from_source g.edges a b (subst (λ xs. Contains xs b) (sym (before a)) c)

  pub before-from_edge : (a b : ℕ) → HasEdge g b a → Contains (directly_before names a) b
  before-from_edge a b e = subst (λ xs. Contains xs b) (before a) (source-from_edge g.edges a b e)

  -- what reaches something is the place of a name
  pub reaching-named : (b a : ℕ) → Reaches g b a → (q : Pair) × (place_of names q ≡ Some b)
  reaching-named _ _ (direct b a e) = let n = name-from_places names (refers_at (meant_at names a)) b (before-from_edge a b e) in (n.0, n.2)
  reaching-named _ _ (onward b k a e path) = let n = name-from_places names (refers_at (meant_at names k)) b (before-from_edge k b e) in (n.0, n.2)

  pub reaches-from_needs : (p q : Pair) (a b : ℕ) → place_of names p ≡ Some a → place_of names q ≡ Some b → Needs names p q → Reaches g b a
  reaches-from_needs _ _ a b h i (direct p q r) = direct b a (edge-from_before a b (before-from_refers names p q a b h i r))
  reaches-from_needs _ _ a b h i (onward p m q r path) =
      let middle = some_place (place_of names m) r.1 in
      joined b middle.0 a (reaches-from_needs m q middle.0 b middle.1 i path) (direct middle.0 a (edge-from_before a middle.0 (before-from_refers names p m a middle.0 h middle.1 r)))

  pub needs-from_reaches : (b a : ℕ) → Reaches g b a → (p q : Pair) → place_of names p ≡ Some a → place_of names q ≡ Some b → Needs names p q
  needs-from_reaches _ _ (direct b a e) p q h i = direct p q (refers-from_before names p q a b h i (before-from_edge a b e))
  needs-from_reaches _ _ (onward b k a e path) p q h i =
      let middle = reaching-named k a path in
      joined p middle.0 q (needs-from_reaches k a path p middle.0 h middle.1) (direct middle.0 q (refers-from_before names middle.0 q k b middle.1 i (before-from_edge k b e)))

pub filled_some : (xs : List ℕ) → is_filled xs ≡ true → (x : ℕ) × Contains xs x
filled_some [] h = absurd (cc)
filled_some (x ∷ xs) h = (x, contains_head x x xs refl)

pub some_filled : (xs : List ℕ) (x : ℕ) → Contains xs x → is_filled xs ≡ true
some_filled [] x c = absurd (none_contained x c)
some_filled (y ∷ xs) x c = refl
