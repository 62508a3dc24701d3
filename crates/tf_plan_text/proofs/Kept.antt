-- What is left of a graph without cycles leads to what the graph leads to, and no edge of it follows from the others.
use Rattle.std.proofs.Common.{◌≡◌, ◌<◌, ◌≤◌, ◌+◌, ◌∷◌, ◌⊎◌, ◌||◌, ℕ, zero, suc, Bool, true, false, not, cond, List, [], refl, sym, ap, ◌∙◌, subst, arith, length, filter, inl, inr}
use Rattle.std.specs.Prelude.{Contains}
use Rattle.std.specs.List.{list_any, AllByRecursion}
use Rattle.std.proofs.lemmas.Bool.{cases_lt, both_ways, false_from_ne_true}
use Rattle.std.proofs.lemmas.List.{get_or_past}
use Rattle.tf_graph.proofs.Edges.{edge-from_target, target-from_edge, source-from_edge, source_inside, target_inside, contains_head, contains_tail, contains_cases}
use Rattle.tf_graph.proofs.GraphLaws.{acyclic-ranked}
use Rattle.tf_graph.proofs.Solving.{all_by_at}
use Rattle.tf_graph.specs.Closure.{Table, IsClosure, reaches}
use Rattle.tf_graph.specs.Digraph.{Digraph, IsWithin, predecessors_of, successors_of}
use Rattle.tf_graph.specs.NodeSet.{has}
use Rattle.tf_graph.specs.Path.{Path, direct, onward, HasEdge, Reaches, IsAcyclic, joined}
use Rattle.tf_graph.specs.Search.{row_of}
use Rattle.tf_graph.specs.Solutions.{Ranked}
use Rattle.tf_plan_text.specs.Beyond.{is_beyond, leads_beyond}
use Rattle.tf_plan_text.specs.Reduction.{Follows, IsReduction, IsAmong, LeadsAlike, IsAmongOthers, NoneFollows}

-- ---- the edges that pass a test

kept_contained : (p : ℕ × ℕ → Bool) (edges : List (ℕ × ℕ)) (e : ℕ × ℕ) → Contains edges e → p e ≡ true → Contains (filter p edges) e
kept_contained p [] e there h = absurd (omega (arith, there.1))
kept_contained p (x ∷ xs) e there h = by_test (kept_contained p xs e) (p x) refl (contains_cases e x xs there)
  where
    by_test : (Contains xs e → p e ≡ true → Contains (filter p xs) e) → (b : Bool) → p x ≡ b → (x ≡ e) ⊎ Contains xs e → Contains (cond b (x ∷ filter p xs) (filter p xs)) e
    by_test again true is (inl same) = contains_head e x (filter p xs) same
    by_test again true is (inr later) = contains_tail e x (filter p xs) (again later h)
    by_test again false is (inl same) = absurd (both_ways (p e) (sym (ap p same) ∙ is) h)
    by_test again false is (inr later) = again later h

contained_kept : (p : ℕ × ℕ → Bool) (edges : List (ℕ × ℕ)) (e : ℕ × ℕ) → Contains (filter p edges) e → Contains edges e × (p e ≡ true)
contained_kept p [] e there = absurd (omega (arith, there.1))
contained_kept p (x ∷ xs) e there = by_test (contained_kept p xs e) (p x) refl there
  where
    by_test : (Contains (filter p xs) e → Contains xs e × (p e ≡ true)) → (b : Bool) → p x ≡ b → Contains (cond b (x ∷ filter p xs) (filter p xs)) e → Contains (x ∷ xs) e × (p e ≡ true)
    by_test again true is here = elim (contains_cases e x (filter p xs) here) [
      | inl same ↦ (contains_head e x xs same, sym (ap p same) ∙ is)
      | inr later ↦ (contains_tail e x xs (again later).0, (again later).1)
    ]
    by_test again false is later = (contains_tail e x xs (again later).0, (again later).1)

not_true : (b : Bool) → not b ≡ true → b ≡ false
not_true true h = sym h
not_true false h = refl

not_false : (b : Bool) → b ≡ false → not b ≡ true
not_false b h = rw h refl

-- ---- what follows, by a test

any_contained : (p : ℕ → Bool) (xs : List ℕ) → list_any p xs ≡ true → (x : ℕ) × Contains xs x × (p x ≡ true)
any_contained p [] h = absurd (both_ways false refl h)
any_contained p (x ∷ xs) h = by_test (any_contained p xs) (p x) refl h
  where
    by_test : (list_any p xs ≡ true → (y : ℕ) × Contains xs y × (p y ≡ true)) → (b : Bool) → p x ≡ b → (b || list_any p xs) ≡ true → (y : ℕ) × Contains (x ∷ xs) y × (p y ≡ true)
    by_test again true is either = (x, contains_head x x xs refl, is)
    by_test again false is either = let it = again either in (it.0, contains_tail it.0 x xs it.1, it.2)

contained_any : (p : ℕ → Bool) (xs : List ℕ) (x : ℕ) → Contains xs x → p x ≡ true → list_any p xs ≡ true
contained_any p [] x there h = absurd (omega (arith, there.1))
contained_any p (y ∷ ys) x there h = by_test (contained_any p ys x) (p y) refl (contains_cases x y ys there)
  where
    by_test : (Contains ys x → p x ≡ true → list_any p ys ≡ true) → (b : Bool) → p y ≡ b → (y ≡ x) ⊎ Contains ys x → (b || list_any p ys) ≡ true
    by_test again true is either = refl
    by_test again false is (inl same) = absurd (both_ways (p x) (sym (ap p same) ∙ is) h)
    by_test again false is (inr later) = again later h

module _ (g : Digraph) (t : Table) (within : IsWithin g.nodes g.edges) (is : IsClosure g t)
    (rows : List (List Bool)) (are_rows : (a b : ℕ) → a < g.nodes → has (row_of rows a) b ≡ reaches t a b) where
  -- the set of a successor has what that reaches
  beyond_follows : (a b : ℕ) → is_beyond rows g a b ≡ true → Follows g a b
  beyond_follows a b h =
      let it = any_contained (λ c. has (row_of rows c) b) (successors_of g a) h in
      let e : HasEdge g a it.0 = edge-from_target g.edges a it.0 it.1 in
      (it.0, e, is.led it.0 b (sym (are_rows it.0 b (target_inside g a it.0 within e)) ∙ it.2))

  follows_beyond : (a b : ℕ) → Follows g a b → is_beyond rows g a b ≡ true
  follows_beyond a b f =
      contained_any (λ c. has (row_of rows c) b) (successors_of g a) f.0 (target-from_edge g.edges a f.0 f.1)
      (are_rows f.0 b (target_inside g a f.0 within f.1) ∙ is.found f.0 b f.2)

  module _ (sets : List (List Bool)) (count : length sets ≡ g.nodes) (are_beyond : (a b : ℕ) → a < g.nodes → has (row_of sets a) b ≡ is_beyond rows g a b) where
    -- the kept edges are those that don't follow
    pub is_reduction : (edges : List (ℕ × ℕ)) → edges ≡ filter (λ e. not (leads_beyond sets e)) g.edges → IsReduction g edges
    is_reduction edges kept = record {
      follows = leads_beyond sets;
      tested = λ a b. (
        λ h. elim (cases_lt a g.nodes) [
          | inl inside ↦ beyond_follows a b (sym (are_beyond a b inside) ∙ h)
          | inr past ↦ absurd (both_ways (has (row_of sets a) b) (ap (λ row. has row b) (get_or_past sets a [] (omega (arith, count, past)))) h)
        ],
        λ f. are_beyond a b (source_inside g a f.0 within f.1) ∙ follows_beyond a b f,
      );
      kept = kept;
    }

-- ---- the closure, and that none follows

module _ (g : Digraph) (edges : List (ℕ × ℕ)) (r : IsReduction g edges) where
  own_edge : (a b : ℕ) → Contains edges (a, b) → HasEdge g a b
  own_edge a b there = (contained_kept (λ e. not (r.follows e)) g.edges (a, b) (subst (λ es. Contains es (a, b)) r.kept there)).0

  own_path : (a b : ℕ) → Path (IsAmong edges) a b → Reaches g a b
  own_path _ _ (direct a b e) = direct a b (own_edge a b e)
  own_path _ _ (onward a b c e p) = onward a b c (own_edge a b e) (own_path b c p)

  other_path : (given : ℕ × ℕ) (a b : ℕ) → Path (IsAmongOthers edges given) a b → Reaches g a b
  other_path given _ _ (direct a b e) = direct a b (own_edge a b e.0)
  other_path given _ _ (onward a b c e p) = onward a b c (own_edge a b e.0) (other_path given b c p)

  apart : (a b : ℕ) → Contains edges (a, b) → Path (IsAmongOthers edges (a, b)) a b → ⊥
  apart a b there p = by_path a b refl refl p
    where
      by_path : (c d : ℕ) → c ≡ a → d ≡ b → Path (IsAmongOthers edges (a, b)) c d → ⊥
      by_path _ _ same_source same_target (direct c d e) = e.1 (rw (same_source, same_target) refl)
      by_path _ _ same_source same_target (onward c m d e q) =
          let follows : Follows g a b = rw (← same_source, ← same_target) (m, own_edge c m e.0, other_path (a, b) m d q) in
          both_ways (r.follows (a, b)) (not_true (r.follows (a, b)) (contained_kept (λ x. not (r.follows x)) g.edges (a, b) (subst (λ es. Contains es (a, b)) r.kept there)).1) ((r.tested a b).1 follows)

  pub none_follows : NoneFollows edges
  none_follows = apart

  module _ (rank : ℕ → ℕ) (rises : (n : ℕ) → AllByRecursion (λ a. rank a < rank n) (predecessors_of g n)) where
    edge_rises : (a b : ℕ) → HasEdge g a b → rank a < rank b
    edge_rises a b e = all_by_at (λ x. rank x < rank b) (predecessors_of g b) a (rises b) (source-from_edge g.edges b a e)

    path_rises : (a b : ℕ) → Reaches g a b → rank a < rank b
    path_rises _ _ (direct a b e) = edge_rises a b e
    path_rises _ _ (onward a b c e p) = omega (arith, edge_rises a b e, path_rises b c p)

    -- where each edge of a path is led to by kept ones, so is the path
    led_path : (fuel : ℕ) → ((x y : ℕ) → HasEdge g x y → rank y ≤ rank x + fuel → Path (IsAmong edges) x y)
        → (a b : ℕ) → Reaches g a b → rank b ≤ rank a + fuel → Path (IsAmong edges) a b
    led_path fuel by _ _ (direct a b e) near = by a b e near
    led_path fuel by _ _ (onward a b c e p) near =
        let first = edge_rises a b e in
        let rest = path_rises b c p in
        joined a b c (by a b e (omega (arith, near, rest))) (led_path fuel by b c p (omega (arith, near, first)))

    led_edge : (fuel : ℕ) (a b : ℕ) → HasEdge g a b → rank b ≤ rank a + fuel → Path (IsAmong edges) a b
    led_edge zero a b e near = absurd (omega (arith, near, edge_rises a b e))
    led_edge (suc fuel) a b e near = by_test (led_edge fuel) (r.follows (a, b)) refl
      where
        by_test : ((x y : ℕ) → HasEdge g x y → rank y ≤ rank x + fuel → Path (IsAmong edges) x y) → (f : Bool) → r.follows (a, b) ≡ f → Path (IsAmong edges) a b
        by_test again false is = direct a b (subst (λ es. Contains es (a, b)) (sym r.kept) (kept_contained (λ x. not (r.follows x)) g.edges (a, b) e (not_false (r.follows (a, b)) is)))
        by_test again true is =
            let f : Follows g a b = (r.tested a b).0 is in
            let first = edge_rises a f.0 f.1 in
            let rest = path_rises f.0 b f.2 in
            joined a f.0 b (again a f.0 f.1 (omega (arith, near, rest))) (led_path fuel again f.0 b f.2 (omega (arith, near, first)))

    pub leads_alike : LeadsAlike g edges
    leads_alike a b = (own_path a b, λ p. led_path (rank b) (led_edge (rank b)) a b p (omega arith))

-- where no node reaches itself there is such a rank
pub ranked : (g : Digraph) (t : Table) → IsWithin g.nodes g.edges → IsClosure g t → IsAcyclic g → Ranked (predecessors_of g)
ranked g t within is acyclic = acyclic-ranked g t within is (λ n. false_from_ne_true (reaches t n n) (λ h. acyclic n (is.led n n h)))

-- what is kept by the sets as they were read
pub reduced : (g : Digraph) (t : Table) → IsWithin g.nodes g.edges → IsClosure g t
    → (rows rows_read : List (List Bool)) → rows_read ≡ rows → ((a b : ℕ) → a < t.nodes → has (row_of rows a) b ≡ reaches t a b)
    → (sets sets_read : List (List Bool)) → sets_read ≡ sets → length sets ≡ g.nodes → ((a b : ℕ) → a < g.nodes → has (row_of sets a) b ≡ is_beyond rows_read g a b)
    → (edges edges_read : List (ℕ × ℕ)) → edges_read ≡ g.edges → edges ≡ filter (λ e. not (leads_beyond sets_read e)) edges_read
    → IsReduction g edges
reduced g t within is rows rows_read same_rows are_rows sets sets_read same_sets count are_beyond edges edges_read same_edges kept =
    is_reduction g t within is rows (λ a b h. are_rows a b (omega (arith, h, is.nodes))) sets count
    (λ a b h. are_beyond a b h ∙ ap (λ rs. is_beyond rs g a b) same_rows) edges
    (kept ∙ ap (λ ss. filter (λ e. not (leads_beyond ss e)) edges_read) same_sets ∙ ap (λ es. filter (λ e. not (leads_beyond sets e)) es) same_edges)
