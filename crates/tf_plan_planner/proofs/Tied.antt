-- What ties resources together is one: by each table of dependence a name needs the same, and over the same stored dependencies
-- the same are late.
use Rattle.std.proofs.Common.{◌≡◌, ◌∙◌, ◌⊎◌, ◌++◌, inl, inr, ℕ, zero, suc, Bool, true, false, cond, codes, List, [], ◌∷◌, Option, Some, length, map, option_map, refl, sym, ap, subst}
use Rattle.std.proofs.lemmas.Slice.Eq.{bytes_eq-Decides}
use Rattle.std.specs.List.{AllByRecursion}
use Rattle.std.specs.Prelude.{Contains, slice_get}
use Rattle.tf_config_address.specs.ResourceAddr.{ResourceAddrView}
use Rattle.tf_config_data.specs.Config.{BlockView, ConfigView}
use Rattle.tf_config_data.specs.Names.{NameView, a_local, a_block, block_name, addr_pair, local_names, meant_at, names_of, place_of, same_pair}
use Rattle.tf_graph.proofs.Edges.{edge-from_source, source-from_edge}
use Rattle.tf_graph.specs.Digraph.{Digraph, predecessors_of}
use Rattle.tf_graph.specs.Path.{HasEdge, Path, direct, onward}
use Rattle.tf_config_names.proofs.Needing.{same_pair-same}
use Rattle.tf_config_names.specs.Needs.{IsDependence, needs_in}
use Rattle.tf_config_names.specs.declared.dependence.Dependence.{Dependence}
use Rattle.tf_plan_planner.specs.Ordered.{AreTied, stored_graph}
use Rattle.tf_plan_order.specs.Late.{IsLate, Leads}
use Rattle.tf_plan_order.specs.Stored.{turned}
use Rattle.tf_plan_order.specs.OrderInput.{OrderInputView}
use Rattle.tf_plan_order.specs.Dependencies.{dependencies}
use Rattle.tf_plan_order.specs.Marks.{is_marked}
use Rattle.tf_plan_order.specs.ResourceLaws.{AreApart}
use Rattle.tf_plan_order.specs.ResourceIndex.{ResourceRefView, a_name, address_of, block_address, numbered}
use Rattle.tf_state_data.specs.Resource.{ResourceView}
use Rattle.tf_expr_syntax.specs.ExprTree as expr
use Rattle.tf_expr_syntax.specs.TemplateNames.{Pair}
use Rattle.tf_value_data.proofs.Conjunction.{and-both}

-- ---- each block is found by its own name

-- a name is a local's or a block's own
abbrev IsOwn : NameView → Type 0
IsOwn x = ((e : expr.Tree) × (x.meant ≡ a_local e) × (x.name.0 ≡ codes "local")) ⊎ ((b : BlockView) × (x.meant ≡ a_block b) × (x.name ≡ addr_pair b.addr))

own_blocks : (blocks : List BlockView) → AllByRecursion IsOwn (map block_name blocks)
own_blocks [] = tt
own_blocks (b ∷ blocks) = (inr (b, refl, refl), own_blocks blocks)

own_names : (es : expr.Entries) (blocks : List BlockView) → AllByRecursion IsOwn (local_names es ++ map block_name blocks)
own_names expr.no_entries blocks = own_blocks blocks
own_names (expr.entry name e es) blocks = (inl (e, refl, refl), own_names es blocks)

addr_of_pair : (a b : ResourceAddrView) → addr_pair a ≡ addr_pair b → a ≡ b
addr_of_pair a b e i = record { type_name = (e i).0; name = (e i).1 }

same_itself : (p : Pair) → same_pair p p ≡ true
same_itself p = and-both _ _ ((bytes_eq-Decides p.0 p.0).1 refl) ((bytes_eq-Decides p.1 p.1).1 refl)

found_here : (b : Bool) (o : Option ℕ) → b ≡ true → cond b (Some zero) o ≡ Some zero
found_here true o h = refl
found_here false o h = absurd (cc)

own_place : (names : List NameView) → AllByRecursion IsOwn names → (n : ℕ) (block : BlockView) → meant_at names n ≡ Some (a_block block) → ¬ (block.addr.type_name ≡ codes "local")
    → ((k : ℕ) (c : BlockView) → meant_at names k ≡ Some (a_block c) → c.addr ≡ block.addr → k ≡ n) → place_of names (addr_pair block.addr) ≡ Some n
own_place [] own n block meant no_local one = absurd (cc)
own_place (x ∷ names) own zero block meant no_local one = elim own.0 [
  | inl l ↦ let no : Some (a_local l.0) ≡ Some (a_block block) = sym (ap Some l.1) ∙ meant in absurd (cc)
  | inr b ↦
      let both : Some (a_block b.0) ≡ Some (a_block block) = sym (ap Some b.1) ∙ meant in
      let same : b.0 ≡ block = (cc) in
      found_here (same_pair x.name (addr_pair block.addr)) (option_map suc (place_of names (addr_pair block.addr)))
      (ap (λ (p : Pair). same_pair p (addr_pair block.addr)) (b.2 ∙ ap (λ (c : BlockView). addr_pair c.addr) same) ∙ same_itself (addr_pair block.addr))
]
own_place (x ∷ names) own (suc n) block meant no_local one =
    by_test (same_pair x.name (addr_pair block.addr)) refl (own_place names own.1 n block meant no_local (λ k c at same. let next : suc k ≡ suc n = one (suc k) c at same in cc))
  where
    by_test : (b : Bool) → same_pair x.name (addr_pair block.addr) ≡ b → place_of names (addr_pair block.addr) ≡ Some n → cond b (Some zero) (option_map suc (place_of names (addr_pair block.addr))) ≡ Some (suc n)
    by_test false is again = ap (option_map suc) again
    by_test true is again =
        let named : x.name ≡ addr_pair block.addr = same_pair-same x.name (addr_pair block.addr) is in
        elim own.0 [
          | inl l ↦ absurd (no_local (ap (λ (p : Pair). p.0) (sym named) ∙ l.2))
          | inr b ↦
              let first : zero ≡ suc n = one zero b.0 (ap Some b.1) (addr_of_pair b.0.addr block.addr (sym b.2 ∙ named)) in
              absurd (cc)
        ]

meant_holds : (P : BlockView → Type 0) (blocks : List BlockView) (n : ℕ) (block : BlockView) → AllByRecursion P blocks → meant_at (map block_name blocks) n ≡ Some (a_block block) → P block
meant_holds P [] n block all e = absurd (cc)
meant_holds P (b ∷ blocks) zero block all e = let same : b ≡ block = (cc) in subst P same all.0
meant_holds P (b ∷ blocks) (suc n) block all e = meant_holds P blocks n block all.1 e

block_holds : (P : BlockView → Type 0) (es : expr.Entries) (blocks : List BlockView) (n : ℕ) (block : BlockView) → AllByRecursion P blocks → meant_at (local_names es ++ map block_name blocks) n ≡ Some (a_block block) → P block
block_holds P expr.no_entries blocks n block all e = meant_holds P blocks n block all e
block_holds P (expr.entry name x es) blocks zero block all e = absurd (cc)
block_holds P (expr.entry name x es) blocks (suc n) block all e = block_holds P es blocks n block all e

slot : (names : List NameView) (n : ℕ) (block : BlockView) → meant_at names n ≡ Some (a_block block) → (x : ResourceRefView) × (slice_get (map a_name names) n ≡ Some x) × (address_of x ≡ Some block.addr)
slot [] n block e = absurd (cc)
slot (x ∷ names) zero block e = let same : x.meant ≡ a_block block = (cc) in (a_name x, refl, ap block_address same)
slot (x ∷ names) (suc n) block e = slot names n block e

-- at most one block is at an address
pub blocks_one : (names : List NameView) → AreApart (map a_name names) → (n m : ℕ) (b c : BlockView) → meant_at names n ≡ Some (a_block b) → meant_at names m ≡ Some (a_block c) → b.addr ≡ c.addr → n ≡ m
blocks_one names apart n m b c e f same =
    let x = slot names n b e in
    let y = slot names m c f in
    apart n m x.0 y.0 c.addr x.1 y.1 (x.2 ∙ ap Some same) y.2

-- where no block is of the type `local`, and no two are at one address, a block stands at the place of its name
pub block_found : (config : ConfigView) → AllByRecursion (λ b. ¬ (b.addr.type_name ≡ codes "local")) config.blocks → AreApart (map a_name (names_of config)) → (n : ℕ) (block : BlockView)
    → meant_at (names_of config) n ≡ Some (a_block block) → place_of (names_of config) (addr_pair block.addr) ≡ Some n
block_found config own apart n block meant =
    own_place (names_of config) (own_names config.locals config.blocks) n block meant
    (block_holds (λ b. ¬ (b.addr.type_name ≡ codes "local")) config.locals config.blocks n block own meant) (λ k c at same. blocks_one (names_of config) apart k n c block at meant same)

-- ---- resources need the same

pub same_truth : (a b : Bool) → (a ≡ true → b ≡ true) → (b ≡ true → a ≡ true) → a ≡ b
same_truth true true f g = refl
same_truth true false f g = sym (f refl)
same_truth false true f g = g refl
same_truth false false f g = refl

module _ (names : List NameView) (d e : Dependence) (is : IsDependence names d) (also : IsDependence names e) where
  needs_too : (p : Pair) (n : ℕ) → place_of names p ≡ Some n → (m : ℕ) → needs_in d n m ≡ true → needs_in e n m ≡ true
  needs_too p n at m h =
      let q = is.named n m h in
      (also.needed p q.0 n m at q.1).1 ((is.needed p q.0 n m at q.1).0 h)

-- what a name needs is determined
pub needs_same : (names : List NameView) (d e : Dependence) → IsDependence names d → IsDependence names e → (p : Pair) (n : ℕ) → place_of names p ≡ Some n → (m : ℕ) → needs_in d n m ≡ needs_in e n m
needs_same names d e is also p n at m = same_truth (needs_in d n m) (needs_in e n m) (needs_too names d e is also p n at m) (needs_too names e d also is p n at m)

-- ---- the same are late

-- a path by what holds more often

pub path_too : (R S : ℕ → ℕ → Type 0) → ((a b : ℕ) → R a b → S a b) → (a b : ℕ) → Path R a b → Path S a b
path_too R S f _ _ (direct a b r) = direct a b (f a b r)
path_too R S f _ _ (onward a b c r p) = onward a b c (f a b r) (path_too R S f b c p)

-- what stands directly before names is the same by each dependence
edge_too : (g h : Digraph) → ((n : ℕ) → predecessors_of g n ≡ predecessors_of h n) → (a b : ℕ) → HasEdge g a b → HasEdge h a b
edge_too g h same a b c = edge-from_source h.edges b a (subst (λ (ns : List ℕ). Contains ns a) (same b) (source-from_edge g.edges b a c))

leads_too : (g h needed : Digraph) → ((n : ℕ) → predecessors_of g n ≡ predecessors_of h n) → (a b : ℕ) → Leads g needed a b → Leads h needed a b
leads_too g h needed same a b (inl r) = inl (path_too (HasEdge g) (HasEdge h) (edge_too g h same) b a r)
leads_too g h needed same a b (inr r) = inr r

late_too : (g h needed : Digraph) (marked : List Bool) → ((n : ℕ) → predecessors_of g n ≡ predecessors_of h n) → (n : ℕ) → IsLate g needed marked n → IsLate h needed marked n
late_too g h needed marked same n l = (l.0, l.1, by_path l.2)
  where
    by_path : (l.0 ≡ n) ⊎ Path (Leads g needed) l.0 n → (l.0 ≡ n) ⊎ Path (Leads h needed) l.0 n
    by_path (inl here) = inl here
    by_path (inr p) = inr (path_too (Leads g needed) (Leads h needed) (leads_too g h needed same) l.0 n p)

module _ (names : List NameView) (rs qs : List ResourceView) (one two : OrderInputView) (tied : AreTied names rs one) (also : AreTied names qs two)
    (same_numbers : numbered names rs ≡ numbered names qs) (same_stored : dependencies (numbered names rs) rs ≡ dependencies (numbered names qs) qs) where
  before_same : (n : ℕ) → predecessors_of tied.dependence.graph n ≡ predecessors_of also.dependence.graph n
  before_same n = tied.is_dependence.before n ∙ sym (also.is_dependence.before n)

  graph_same : stored_graph (numbered names rs) rs ≡ stored_graph (numbered names qs) qs
  graph_same = λ i. record { nodes = length (same_numbers i); edges = turned (same_stored i) }

  marks_same : map is_marked (numbered names rs) ≡ map is_marked (numbered names qs)
  marks_same = ap (map is_marked) same_numbers

  -- over the same stored dependencies and marks the same are late
  pub late_same : (n : ℕ) → one.late n ≡ two.late n
  late_same n =
      same_truth (one.late n) (two.late n)
      (λ h.
      let l = late_too tied.dependence.graph also.dependence.graph (stored_graph (numbered names rs) rs) (map is_marked (numbered names rs)) before_same n ((tied.late n).0 h) in
      (also.late n).1
      (subst (λ (g : Digraph). IsLate also.dependence.graph g (map is_marked (numbered names qs)) n) graph_same
      (subst (λ (ms : List Bool). IsLate also.dependence.graph (stored_graph (numbered names rs) rs) ms n) marks_same l)))
      (λ h.
      let l = late_too also.dependence.graph tied.dependence.graph (stored_graph (numbered names qs) qs) (map is_marked (numbered names qs)) (λ k. sym (before_same k)) n ((also.late n).0 h) in
      (tied.late n).1
      (subst (λ (g : Digraph). IsLate tied.dependence.graph g (map is_marked (numbered names rs)) n) (sym graph_same)
      (subst (λ (ms : List Bool). IsLate tied.dependence.graph (stored_graph (numbered names qs) qs) ms n) (sym marks_same) l)))

-- what needed what is the same over the same numbers and stored dependencies
pub needed_same : (names : List NameView) (resources : List ResourceView) (one two : OrderInputView) → AreTied names resources one → AreTied names resources two → (a b : ℕ) → one.needed a b ≡ two.needed a b
needed_same names resources one two tied also a b = same_truth (one.needed a b) (two.needed a b) (λ h. (also.needed a b).1 ((tied.needed a b).0 h)) (λ h. (tied.needed a b).1 ((also.needed a b).0 h))
