-- Which name needs which can be told of all names of which none needs itself.
use Rattle.std.proofs.Common.{◌≡◌, ◌+◌, ◌^◌, ◌<◌, ◌≤◌, ◌++◌, ℕ, zero, suc, Bool, true, false, List, [], length, Global, Vec, refl, subst, arith}
use Rattle.std.specs.Ptr.{null_ptr}
use Rattle.tf_config_data.specs.Names.{NameView, directly_before}
use Rattle.tf_graph.proofs.Edges.{predecessors-within}
use Rattle.tf_graph.proofs.GraphLaws.{acyclic-ranked}
use Rattle.tf_graph.specs.Closure.{reaches}
use Rattle.tf_graph.specs.Digraph.{Digraph, IsWithin, predecessors_of}
use Rattle.tf_graph.specs.Path.{Reaches}
use Rattle.tf_config_names.proofs.Dependences.{dependence}
use Rattle.tf_config_names.proofs.Edging.{AreEdges, are-within, edges-all, edges-more, edges-none}
use Rattle.tf_config_names.proofs.Needing.{needs-from_reaches, reaching-named}
use Rattle.tf_config_names.proofs.Placed.{some_places}
use Rattle.tf_config_names.specs.Edges.{edges_into}
use Rattle.tf_config_names.specs.Needs.{IsAcyclic, IsDependence, Needs}
use Rattle.tf_config_names.specs.declared.dependence.Dependence.{Dependence}
use Rattle.tf_expr_syntax.specs.TemplateNames.{Pair}
use Rattle.tf_laws.proofs.Graphs.{is_closure, order_is_short, table_of, whole_order}
use Rattle.tf_laws.proofs.Leading.{IsDecided, decided_path}

-- ---- the graph of names

some_edges : (names : List NameView) (upto : ℕ) → upto ≤ length names → (edges : List (ℕ × ℕ)) × AreEdges names upto edges
some_edges names zero h = ([], edges-none names)
some_edges names (suc upto) h =
    let rest = some_edges names upto (omega (arith, h)) in
    let next : List (ℕ × ℕ) = rest.0 ++ edges_into upto (directly_before names upto) in
    let e : upto + 1 ≡ suc upto = omega arith in
    (next, subst (λ (k : ℕ). AreEdges names k next) e (edges-more names upto rest.0 next (directly_before names upto) (omega (arith, h)) refl refl rest.1))

module _ (names : List NameView) where
  pub its_edges : (edges : List (ℕ × ℕ)) × AreEdges names (length names) edges
  its_edges = some_edges names (length names) (omega arith)

  abbrev pub graph_of : Digraph
  graph_of = record { nodes = length names; edges = its_edges.0 }

  pub graph_before : (n : ℕ) → predecessors_of graph_of n ≡ directly_before names n
  graph_before n = edges-all names (length names) its_edges.0 (omega arith) its_edges.1 n

  graph_within : IsWithin (length names) its_edges.0
  graph_within = are-within (length names) its_edges.0 its_edges.1.within

  pub decided_reaches : (a b : ℕ) → IsDecided (Reaches graph_of a b)
  decided_reaches a b = decided_path its_edges.0 a b

  module _ (none : (pair : Pair) → Needs names pair pair → ⊥) where
    no_cycle : (n : ℕ) → Reaches graph_of n n → ⊥
    no_cycle n path = let named = reaching-named names graph_of graph_before n n path in none named.0 (needs-from_reaches names graph_of graph_before n n path named.0 named.0 named.1 named.1)

    acyclic : (n : ℕ) → reaches (table_of graph_of decided_reaches) n n ≡ false
    acyclic n = by_test (reaches (table_of graph_of decided_reaches) n n) refl
      where
        by_test : (b : Bool) → reaches (table_of graph_of decided_reaches) n n ≡ b → b ≡ false
        by_test false e = refl
        by_test true e = absurd (no_cycle n ((is_closure graph_of decided_reaches graph_within).led n n e))

-- ---- a table of dependence

-- A list as it may lie in memory. Where it lies is of no account: what is told of it are its items.
abbrev vec_of : (items : List ℕ) → length items < 2 ^ 63 → Vec ℕ Global
vec_of items few = record {
  ptr = null_ptr;
  len = length items;
  cap = length items;
  alloc = record { memory = record { seal = tt } };
  items = items;
  ok = (refl, omega arith);
  small = few;
}

pub some_dependence : (names : List NameView) → length names < 2 ^ 63 → ((pair : Pair) → Needs names pair pair → ⊥) → (d : Dependence) × IsDependence names d × IsAcyclic d
some_dependence names few none =
    let g : Digraph = graph_of names in
    let closure = is_closure g (decided_reaches names) (graph_within names) in
    let ranked = acyclic-ranked g (table_of g (decided_reaches names)) (graph_within names) closure (acyclic names none) in
    let order = whole_order g (predecessors-within g (graph_within names)) ranked in
    let short = order_is_short g order.0 order.1 in
    let d : Dependence = record { graph = g; order = vec_of order.0 (omega (arith, few, short)); table = table_of g (decided_reaches names); places = (some_places names).0 } in
    (d, dependence names d (some_places names).1 refl (its_edges names).1.within (graph_before names) order.1 closure, acyclic names none)
