-- What ties resources together is sound, and what the definition says.
use Rattle.std.proofs.Common.{◌≡◌, ◌≤◌, ◌↔◌, ℕ, Bool, true, false, List, length, map, slice_index_or, refl, sym, subst, inl, inr}
use Rattle.tf_plan_data.specs.Action.{ActionView}
use Rattle.tf_config_data.specs.Names.{NameView}
use Rattle.tf_graph.specs.Closure.{reaches}
use Rattle.tf_graph.specs.Digraph.{Digraph}
use Rattle.tf_graph.specs.Path.{Path, direct, joined}
use Rattle.tf_config_names.specs.Needs.{IsAcyclic, IsDependence, needs_in}
use Rattle.tf_config_names.specs.declared.dependence.Dependence.{Dependence}
use Rattle.tf_plan_planner.proofs.Refusing.{tells-weaker}
use Rattle.tf_plan_planner.specs.Ordered.{AreTied, IsOrdered, action_pairs, max_pairs, stored_graph, ties_by}
use Rattle.tf_plan_planner.specs.Refused.{AreManyPairsBy, HasManyPairs, Tells}
use Rattle.tf_plan_planner.specs.declared.refused.Refused.{Refused}
use Rattle.tf_plan_order.specs.Late.{AreLate, IsLate, Leads}
use Rattle.tf_plan_order.specs.Stored.{IsStored, Needed}
use Rattle.tf_plan_order.specs.OrderInput.{AreSound}
use Rattle.tf_plan_order.specs.declared.stored.StoredDependencies.{StoredDependencies}
use Rattle.tf_plan_order.specs.Dependencies.{dependencies}
use Rattle.tf_plan_order.specs.Marks.{is_marked}
use Rattle.tf_plan_order.specs.ResourceIndex.{ResourceRefView, numbered}
use Rattle.tf_state_data.specs.Resource.{ResourceView}

late-onward : (needs needed : Digraph) (marked : List Bool) (a b : ℕ) → IsLate needs needed marked a → Leads needs needed a b → IsLate needs needed marked b
late-onward needs needed marked a b is lead = (
  is.0,
  is.1,
  elim is.2 [
    | inl same ↦ inr (subst (λ k. Path (Leads needs needed) k b) (sym same) (direct a b lead))
    | inr path ↦ inr (joined is.0 a b path (direct a b lead))
  ],
)

module _ (names : List NameView) (resources : List ResourceView) (all : List ResourceRefView) (d : Dependence) (stored : StoredDependencies) (late : List Bool) (is : IsDependence names d) (numbers : all ≡ numbered names resources) (kept : IsStored (length all) (dependencies all resources) stored) where
  pub ties-sound : (marked : List Bool) → IsAcyclic d → AreLate d.graph stored.graph marked late → AreSound (ties_by d stored late)
  ties-sound marked acyclic are = record {
    strict = record { irreflexive = acyclic; transitive = is.transitive };
    onward = λ a b c h k. kept.closure.found c a (joined c b a (kept.closure.led c b k) (kept.closure.led b a h));
    spreads = λ a b h k. (are b).1 (late-onward d.graph stored.graph marked a b ((are a).0 h) (inr (kept.closure.led b a k)));
  }

  whole-graph : stored.graph ≡ stored_graph all resources
  whole-graph i = record { nodes = kept.nodes i; edges = kept.edges i }

  ties-by_all : AreLate d.graph (stored_graph all resources) (map is_marked all) late → (all2 : List ResourceRefView) → all ≡ all2
      → (n : ℕ) → (slice_index_or late n false ≡ true) ↔ IsLate d.graph (stored_graph all2 resources) (map is_marked all2) n
  ties-by_all are all2 same = subst (λ xs. (n : ℕ) → (slice_index_or late n false ≡ true) ↔ IsLate d.graph (stored_graph xs resources) (map is_marked xs) n) same are

  pub ties-are : AreLate d.graph stored.graph (map is_marked all) late → AreTied names resources (ties_by d stored late)
  ties-are are = record {
    dependence = d;
    is_dependence = is;
    needs = refl;
    needed = subst (λ xs. (a b : ℕ) → (reaches stored.table b a ≡ true) ↔ Needed (dependencies xs resources) a b) numbers kept.needed;
    late = ties-by_all (subst (λ g. AreLate d.graph g (map is_marked all) late) whole-graph are) (numbered names resources) numbers;
  }

  pub order-is : (order : Digraph) (actions : List ActionView) → AreLate d.graph stored.graph (map is_marked all) late → order.nodes ≡ length actions → order.edges ≡ action_pairs (ties_by d stored late) actions
      → length order.edges ≤ max_pairs → IsOrdered names resources (needs_in d) (λ n. slice_index_or late n false) actions order
  order-is order actions are nodes edges few = record { needed = λ a b. reaches stored.table b a; tied = ties-are are; nodes = nodes; edges = edges; few = few }

  pub pairs-refused : (actions : List ActionView) (refused : Refused) → AreLate d.graph stored.graph (map is_marked all) late → Tells (AreManyPairsBy (ties_by d stored late) actions) refused
      → Tells (HasManyPairs names resources actions) refused
  pairs-refused actions refused are told =
      tells-weaker (AreManyPairsBy (ties_by d stored late) actions) (HasManyPairs names resources actions) refused (λ refusal_views h. record { ties = ties_by d stored late; tied = ties-are are; many = h }) told
