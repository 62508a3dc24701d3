-- Stored dependencies turned round: the paths are those of the dependencies.
use Rattle.std.proofs.Common.{◌≡◌, ◌∙◌, ◌<◌, ◌↔◌, ℕ, true, List, length, sym, ap, subst, arith}
use Rattle.std.specs.Prelude.{Contains}
use Rattle.std.proofs.lemmas.List.{length-map, get_or-map}
use Rattle.tf_graph.specs.Closure.{IsClosure, reaches, Table}
use Rattle.tf_graph.specs.Digraph.{Digraph, IsWithin, edge_at}
use Rattle.tf_graph.specs.Path.{direct, onward, joined, Reaches}
use Rattle.tf_plan_order.specs.Stored.{Needed, turned}

abbrev turn : ℕ × ℕ → ℕ × ℕ
turn e = (e.1, e.0)

turned-contains : (pairs : List (ℕ × ℕ)) (a b : ℕ) → Contains pairs (a, b) → Contains (turned pairs) (b, a)
turned-contains pairs a b c = (c.0, omega (arith, c.1, length-map pairs turn), get_or-map turn pairs c.0 (a, b) (b, a) c.1 ∙ ap turn c.2)

turned-from : (pairs : List (ℕ × ℕ)) (a b : ℕ) → Contains (turned pairs) (b, a) → Contains pairs (a, b)
turned-from pairs a b c =
    let inside : c.0 < length pairs = omega (arith, c.1, length-map pairs turn) in
    (c.0, inside, ap turn (sym (get_or-map turn pairs c.0 (a, b) (b, a) inside) ∙ c.2))

pub turned-within : (nodes : ℕ) (pairs : List (ℕ × ℕ)) → IsWithin nodes pairs → IsWithin nodes (turned pairs)
turned-within nodes pairs w = record {
  source_below = λ i h. let inside = shorter i h in rw (at i inside) (w.target_below i inside);
  target_below = λ i h. let inside = shorter i h in rw (at i inside) (w.source_below i inside);
}
  where
    shorter : (i : ℕ) → i < length (turned pairs) → i < length pairs
    shorter i h = omega (arith, h, length-map pairs turn)

    at : (i : ℕ) → i < length pairs → edge_at (turned pairs) i ≡ turn (edge_at pairs i)
    at i h = get_or-map turn pairs i (0, 0) (0, 0) h

module _ (g : Digraph) (pairs : List (ℕ × ℕ)) (edges : g.edges ≡ turned pairs) where
  from_reaches : (a b : ℕ) → Reaches g b a → Needed pairs a b
  from_reaches _ _ (direct b a e) = direct a b (turned-from pairs a b (subst (λ xs. Contains xs (b, a)) edges e))
  from_reaches _ _ (onward b c a e p) = joined a c b (from_reaches a c p) (direct c b (turned-from pairs c b (subst (λ xs. Contains xs (b, c)) edges e)))

  to_reaches : (a b : ℕ) → Needed pairs a b → Reaches g b a
  to_reaches _ _ (direct a b e) = direct b a (subst (λ xs. Contains xs (b, a)) (sym edges) (turned-contains pairs a b e))
  to_reaches _ _ (onward a c b e p) = joined b c a (to_reaches c b p) (direct c a (subst (λ xs. Contains xs (c, a)) (sym edges) (turned-contains pairs a c e)))

  pub needed-reached : (table : Table) → IsClosure g table → (a b : ℕ) → (reaches table b a ≡ true) ↔ Needed pairs a b
  needed-reached table is a b = (λ h. from_reaches a b (is.led b a h), λ p. is.found b a (to_reaches a b p))
