-- Where nothing is destroyed and nothing is marked, what the state has stored puts no action before another.
use Rattle.std.proofs.Common.{◌≡◌, ◌≤◌, ◌<◌, ◌↔◌, ◌==◌, ◌&&◌, ◌||◌, ◌⊎◌, ℕ, zero, suc, Bool, true, false, List, [], ◌∷◌, length, map, slice_index_or, if◌then◌else◌, refl, sym, ap, subst, ◌∙◌, inl, inr, arith, IfOk, IfErr, Result, Ok, Err, Vec}
use Rattle.std.specs.declared.alloc.Global.{Global}
use Rattle.std.proofs.lemmas.List.{length-map}
use Rattle.std.proofs.lemmas.Bool.{and_from, and_parts, both_ways, eqb-true, eq-eqb, false_from_ne_true, or_cases, or_left, or_parts, or_right, true≢false}
use Rattle.std.specs.List.{flat_map, list_all, list_any, range_with_len}
use Rattle.std.specs.Prelude.{Contains}
use Rattle.tf_config_data.specs.Names.{NameView}
use Rattle.tf_config_names.specs.Needs.{IsAcyclic, IsDependence, needs_in}
use Rattle.tf_config_names.specs.declared.dependence.Dependence.{Dependence}
use Rattle.tf_graph.proofs.Edges.{contains_cases, contains_head, contains_tail}
use Rattle.tf_graph.specs.Closure.{reaches}
use Rattle.tf_graph.specs.Digraph.{Digraph}
use Rattle.tf_graph.specs.NodeSet.{has}
use Rattle.tf_graph.specs.Path.{direct, joined, onward}
use Rattle.tf_plan_planner.proofs.Refusing.{tells-weaker}
use Rattle.tf_plan_planner.specs.Ordered.{AreTied, IsOrdered, action_pairs, by_needs, is_applied, max_pairs, ties_by}
use Rattle.tf_plan_planner.specs.Refused.{AreManyPairsBy, HasManyPairs, Tells}
use Rattle.tf_plan_planner.specs.declared.ordering.Ordered.{Ordered}
use Rattle.tf_plan_planner.specs.declared.refused.Refused.{Refused}
use Rattle.tf_plan_data.specs.declared.action.Action.{Action}
use Rattle.tf_plan_data.specs.Action.{ActionView, StepView, action_of, create, update, replacement, replaced, destroyed, deposed_destroyed}
use Rattle.tf_plan_data.specs.Fits.{is_apply}
use Rattle.tf_plan_data.specs.Precedence.{kind_of, ordered}
use Rattle.tf_plan_order.specs.Before.{is_before, is_before_by}
use Rattle.tf_plan_order.specs.Dependencies.{dependencies}
use Rattle.tf_plan_order.specs.Marks.{is_marked}
use Rattle.tf_plan_order.specs.Order.{action_at}
use Rattle.tf_plan_order.specs.OrderInput.{AreSound, OrderInputView}
use Rattle.tf_plan_order.specs.ResourceIndex.{numbered}
use Rattle.tf_plan_order.specs.Stored.{DependsOn, IsStored, Needed}
use Rattle.tf_plan_order.specs.declared.action.OrderedAction.{OrderedAction}
use Rattle.tf_plan_order.specs.declared.action.ActionKind.TheVariants.{Apply}
use Rattle.tf_plan_order.specs.declared.stored.StoredDependencies.{StoredDependencies}
use Rattle.tf_state_data.specs.Resource.{ResourceView}

-- ---- whether some pairs lead from a to b can be told

-- over all but the first pair; or to where the first pair begins, by a path or as the same, and on from where it ends
abbrev pub leads : List (ℕ × ℕ) → ℕ → ℕ → Bool
leads [] a b = false
leads (p ∷ ps) a b = leads ps a b || ((a == p.0 || leads ps a p.0) && (p.1 == b || leads ps p.1 b))

longer : (p : ℕ × ℕ) (ps : List (ℕ × ℕ)) (a b : ℕ) → Needed ps a b → Needed (p ∷ ps) a b
longer p ps _ _ (direct a b c) = direct a b (contains_tail (a, b) p ps c)
longer p ps _ _ (onward a c b e q) = onward a c b (contains_tail (a, c) p ps e) (longer p ps c b q)

same_or : (ps : List (ℕ × ℕ)) (a b : ℕ) → (a == b || leads ps a b) ≡ true → (a ≡ b) ⊎ (leads ps a b ≡ true)
same_or ps a b h = elim (or_cases (a == b) (leads ps a b) h) [
  | inl same ↦ inl (eqb-true a b same)
  | inr led ↦ inr led
]

-- from a to where the first pair begins, over that pair, and from where it ends to b
over : (p : ℕ × ℕ) (ps : List (ℕ × ℕ)) (a b : ℕ) → (a ≡ p.0) ⊎ Needed ps a p.0 → (p.1 ≡ b) ⊎ Needed ps p.1 b → Needed (p ∷ ps) a b
over p ps a b to from = elim from [
  | inl ends ↦ subst (λ k. Needed (p ∷ ps) a k) ends (elim to [
    | inl begins ↦ subst (λ k. Needed (p ∷ ps) k p.1) (sym begins) (direct p.0 p.1 (contains_head (p.0, p.1) p ps refl))
    | inr path ↦ joined a p.0 p.1 (longer p ps a p.0 path) (direct p.0 p.1 (contains_head (p.0, p.1) p ps refl))
  ])
  | inr on ↦ elim to [
    | inl begins ↦ subst (λ k. Needed (p ∷ ps) k b) (sym begins) (onward p.0 p.1 b (contains_head (p.0, p.1) p ps refl) (longer p ps p.1 b on))
    | inr path ↦ joined a p.0 b (longer p ps a p.0 path) (onward p.0 p.1 b (contains_head (p.0, p.1) p ps refl) (longer p ps p.1 b on))
  ]
]

pub led : (ps : List (ℕ × ℕ)) (a b : ℕ) → leads ps a b ≡ true → Needed ps a b
led [] a b h = absurd (true≢false (sym h))
led (p ∷ ps) a b h = elim (or_cases (leads ps a b) ((a == p.0 || leads ps a p.0) && (p.1 == b || leads ps p.1 b)) h) [
  | inl path ↦ longer p ps a b (led ps a b path)
  | inr parts ↦
      let both = and_parts (a == p.0 || leads ps a p.0) (p.1 == b || leads ps p.1 b) parts in
      over p ps a b
      (elim (same_or ps a p.0 both.0) [ inl same ↦ inl same | inr path ↦ inr (led ps a p.0 path) ])
      (elim (same_or ps p.1 b both.1) [ inl same ↦ inl same | inr path ↦ inr (led ps p.1 b path) ])
]

by_rest : (p : ℕ × ℕ) (ps : List (ℕ × ℕ)) (a b : ℕ) → leads ps a b ≡ true → leads (p ∷ ps) a b ≡ true
by_rest p ps a b h = or_left (leads ps a b) ((a == p.0 || leads ps a p.0) && (p.1 == b || leads ps p.1 b)) h

by_first : (p : ℕ × ℕ) (ps : List (ℕ × ℕ)) (a b : ℕ) → (a == p.0 || leads ps a p.0) ≡ true → (p.1 == b || leads ps p.1 b) ≡ true → leads (p ∷ ps) a b ≡ true
by_first p ps a b to from = or_right (leads ps a b) ((a == p.0 || leads ps a p.0) && (p.1 == b || leads ps p.1 b)) (and_from (a == p.0 || leads ps a p.0) (p.1 == b || leads ps p.1 b) to from)

-- a pair of the rest, and then what is known of where it leads
rest_first : (p : ℕ × ℕ) (ps : List (ℕ × ℕ)) → ((a b : ℕ) → Needed ps a b → leads ps a b ≡ true) → (a c b : ℕ) → DependsOn ps a c → leads (p ∷ ps) c b ≡ true → leads (p ∷ ps) a b ≡ true
rest_first p ps found a c b e h = elim (or_cases (leads ps c b) ((c == p.0 || leads ps c p.0) && (p.1 == b || leads ps p.1 b)) h) [
  | inl path ↦ by_rest p ps a b (found a b (onward a c b e (led ps c b path)))
  | inr parts ↦
      let both = and_parts (c == p.0 || leads ps c p.0) (p.1 == b || leads ps p.1 b) parts in
      let to : leads ps a p.0 ≡ true = elim (same_or ps c p.0 both.0) [
        | inl same ↦ found a p.0 (subst (Needed ps a) same (direct a c e))
        | inr path ↦ found a p.0 (onward a c p.0 e (led ps c p.0 path))
      ] in
      by_first p ps a b (or_right (a == p.0) (leads ps a p.0) to) both.1
]

-- the first pair, and then what is known of where it leads
pair_first : (p : ℕ × ℕ) (ps : List (ℕ × ℕ)) (a c b : ℕ) → p ≡ (a, c) → leads (p ∷ ps) c b ≡ true → leads (p ∷ ps) a b ≡ true
pair_first p ps a c b is h =
    let to : (a == p.0 || leads ps a p.0) ≡ true = or_left (a == p.0) (leads ps a p.0) (eq-eqb a p.0 (sym (ap (λ q. q.0) is))) in
    let ends : p.1 ≡ c = ap (λ q. q.1) is in
    elim (or_cases (leads ps c b) ((c == p.0 || leads ps c p.0) && (p.1 == b || leads ps p.1 b)) h) [
      | inl path ↦ by_first p ps a b to (or_right (p.1 == b) (leads ps p.1 b) (subst (λ k. leads ps k b ≡ true) (sym ends) path))
      | inr parts ↦ by_first p ps a b to (and_parts (c == p.0 || leads ps c p.0) (p.1 == b || leads ps p.1 b) parts).1
    ]

module _ (p : ℕ × ℕ) (ps : List (ℕ × ℕ)) (found : (a b : ℕ) → Needed ps a b → leads ps a b ≡ true) where
  found_more : (a b : ℕ) → Needed (p ∷ ps) a b → leads (p ∷ ps) a b ≡ true
  found_more _ _ (direct a b c) = elim (contains_cases (a, b) p ps c) [
    | inl is ↦ by_first p ps a b (or_left (a == p.0) (leads ps a p.0) (eq-eqb a p.0 (sym (ap (λ q. q.0) is)))) (or_left (p.1 == b) (leads ps p.1 b) (eq-eqb p.1 b (ap (λ q. q.1) is)))
    | inr rest ↦ by_rest p ps a b (found a b (direct a b rest))
  ]
  found_more _ _ (onward a c b e q) = elim (contains_cases (a, c) p ps e) [
    | inl is ↦ pair_first p ps a c b is (found_more c b q)
    | inr rest ↦ rest_first p ps found a c b rest (found_more c b q)
  ]

no_pair : (p : ℕ × ℕ) → Contains [] p → ⊥
no_pair p c = absurd (omega (arith, c.1))

nowhere : (a b : ℕ) → Needed [] a b → leads [] a b ≡ true
nowhere _ _ (direct a b c) = absurd (no_pair (a, b) c)
nowhere _ _ (onward a c b e q) = absurd (no_pair (a, c) e)

pub found : (ps : List (ℕ × ℕ)) (a b : ℕ) → Needed ps a b → leads ps a b ≡ true
found [] = nowhere
found (p ∷ ps) = found_more p ps (found ps)

pub leads-is_needed : (ps : List (ℕ × ℕ)) (a b : ℕ) → (leads ps a b ≡ true) ↔ Needed ps a b
leads-is_needed ps a b = (led ps a b, found ps a b)

-- ---- no mark

pub unmarked_at : (marks : List Bool) → list_any (λ m. m) marks ≡ false → (n : ℕ) → slice_index_or marks n false ≡ false
unmarked_at [] h n = refl
unmarked_at (m ∷ marks) h zero = (or_parts m (list_any (λ m. m) marks) h).0
unmarked_at (m ∷ marks) h (suc n) = unmarked_at marks (or_parts m (list_any (λ m. m) marks) h).1 n

-- ---- actions that create or update

applied_at : (actions : List ActionView) → list_all is_applied actions ≡ true → (n : ℕ) → (action_at (map ordered actions) n).kind ≡ Apply
applied_at [] all n = refl
applied_at (a ∷ actions) all zero = kind_is a.step (and_parts (is_apply a.step) (list_all is_applied actions) all).0
  where
    kind_is : (s : StepView) → is_apply s ≡ true → kind_of s ≡ Apply
    kind_is (create asked) h = refl
    kind_is (update prior asked names) h = refl
    kind_is (replacement asked names) h = refl
    kind_is (replaced prior) h = absurd (true≢false (sym h))
    kind_is (destroyed prior) h = absurd (true≢false (sym h))
    kind_is (deposed_destroyed key prior) h = absurd (true≢false (sym h))
applied_at (a ∷ actions) all (suc n) = applied_at actions (and_parts (is_apply a.step) (list_all is_applied actions) all).1 n

needs_alone : (t : OrderInputView) (x y : OrderedAction) → x.kind ≡ Apply → y.kind ≡ Apply → is_before t x y ≡ t.needs y.resource x.resource
needs_alone t x y p q = ap (λ k. is_before_by t x y k y.kind) p ∙ ap (is_before_by t x y Apply) q

-- what alone orders them is what needs what by the configuration
pub same_pairs : (t u : OrderInputView) (actions : List ActionView) → t.needs ≡ u.needs → list_all is_applied actions ≡ true → action_pairs t actions ≡ action_pairs u actions
same_pairs t u actions same all =
    let xs = map ordered actions in
    let before : (second first : ℕ) → is_before t (action_at xs first) (action_at xs second) ≡ is_before u (action_at xs first) (action_at xs second) =
    λ second first.
    let x = action_at xs first in
    let y = action_at xs second in
    needs_alone t x y (applied_at actions all first) (applied_at actions all second)
    ∙ ap (λ needs. needs y.resource x.resource) same
    ∙ sym (needs_alone u x y (applied_at actions all first) (applied_at actions all second)) in
    λ i. flat_map (λ second. flat_map (λ first. if before second first i then (first, second) ∷ [] else []) (range_with_len 0 (length xs))) (range_with_len 0 (length xs))

-- ---- the order of such actions where nothing is marked

module _ (names : List NameView) (resources : List ResourceView) (d : Dependence) (marks : List Bool) (is : IsDependence names d) (marked : marks ≡ map is_marked (numbered names resources)) (unmarked : list_any (λ m. m) marks ≡ false) where
  abbrev stored : List (ℕ × ℕ)
  stored = dependencies (numbered names resources) resources

  abbrev tied_by : OrderInputView
  tied_by = record { needs = needs_in d; needed = leads stored; late = λ n. slice_index_or marks n false }

  no_mark : {P : Type 0} (n : ℕ) → slice_index_or marks n false ≡ true → P
  no_mark n h = absurd (both_ways (slice_index_or marks n false) (unmarked_at marks unmarked n) h)

  are-tied : AreTied names resources tied_by
  are-tied = record {
    dependence = d;
    is_dependence = is;
    needs = refl;
    needed = leads-is_needed stored;
    late = λ n. (no_mark n, λ late. no_mark late.0 (subst (λ ms. has ms late.0 ≡ true) (sym marked) late.1));
  }

  pub applied-order : (order : Digraph) (actions : List ActionView) → list_all is_applied actions ≡ true → order.nodes ≡ length actions → order.edges ≡ action_pairs (by_needs (needs_in d)) actions
      → length order.edges ≤ max_pairs → IsOrdered names resources (needs_in d) (λ n. slice_index_or marks n false) actions order
  applied-order order actions all nodes edges few =
      record { needed = leads stored; tied = are-tied; nodes = nodes; edges = edges ∙ same_pairs (by_needs (needs_in d)) tied_by actions refl all; few = few }

  pub applied-refused : (actions : List ActionView) (refused : Refused) → list_all is_applied actions ≡ true → Tells (AreManyPairsBy (by_needs (needs_in d)) actions) refused → Tells (HasManyPairs names resources actions) refused
  applied-refused actions refused all told =
      tells-weaker (AreManyPairsBy (by_needs (needs_in d)) actions) (HasManyPairs names resources actions) refused
      (λ refusal_views h. record { ties = tied_by; tied = are-tied; many = (subst (λ pairs. max_pairs < length pairs) (same_pairs (by_needs (needs_in d)) tied_by actions refl all) h.0, h.1) }) told

  -- the same of an answer
  pub applied-ok : (answer : Result Ordered Refused) (actions : List Action) (own : Vec Bool Global) → own.items ≡ marks → list_all is_applied (map action_of actions) ≡ true
      → IfOk answer (λ o. o.late ≡ own) → IfOk answer (λ o. o.order.nodes ≡ length actions) → IfOk answer (λ o. o.order.edges ≡ action_pairs (by_needs (needs_in d)) (map action_of actions))
      → IfOk answer (λ o. length o.order.edges ≤ max_pairs) → IfOk answer (λ o. IsOrdered names resources (needs_in d) (λ n. slice_index_or o.late.items n false) (map action_of actions) o.order)
  applied-ok (Ok o) actions own is_own all late nodes edges few =
      subst (λ ms. IsOrdered names resources (needs_in d) (λ n. slice_index_or ms n false) (map action_of actions) o.order) (sym (ap (λ v. v.items) late ∙ is_own))
      (applied-order o.order (map action_of actions) all (nodes ∙ sym (length-map actions action_of)) edges few)
  applied-ok (Err refused) actions own is_own all late nodes edges few = tt

  pub applied-err : (answer : Result Ordered Refused) (actions : List ActionView) → list_all is_applied actions ≡ true → IfErr answer (Tells (AreManyPairsBy (by_needs (needs_in d)) actions)) → IfErr answer (Tells (HasManyPairs names resources actions))
  applied-err (Ok o) actions all told = tt
  applied-err (Err refused) actions all told = applied-refused actions refused all told

-- ---- what ties them soundly

pub no_state-sound : (names : List NameView) (d : Dependence) → IsDependence names d → IsAcyclic d → AreSound (by_needs (needs_in d))
no_state-sound names d is acyclic = record {
  strict = record { irreflexive = acyclic; transitive = is.transitive };
  onward = λ a b c h k. absurd (true≢false (sym h));
  spreads = λ a b h k. absurd (true≢false (sym h));
}

-- a table of nothing stored, and no marks, tie no more than what needs what
pub ties-by_needs : (d : Dependence) (nothing : StoredDependencies) (n : ℕ) (marks : List Bool) → IsStored n [] nothing → list_any (λ m. m) marks ≡ false → ties_by d nothing marks ≡ by_needs (needs_in d)
ties-by_needs d nothing n marks kept unmarked i = record {
  needs = needs_in d;
  needed = λ a b. untied a b i;
  late = λ m. unmarked_at marks unmarked m i;
}
  where
    untied : (a b : ℕ) → reaches nothing.table b a ≡ false
    untied a b = false_from_ne_true (reaches nothing.table b a) (λ h. true≢false (sym (found [] a b ((kept.needed a b).0 h))))
