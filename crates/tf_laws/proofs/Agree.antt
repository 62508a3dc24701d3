-- What an action asked by what came of the actions before it is what it would ask by what came of all.
use Rattle.std.proofs.Common.{◌≡◌, ◌∙◌, ◌<◌, ◌==◌, ◌&&◌, ◌⊎◌, inl, inr, ℕ, zero, suc, Bool, true, false, if◌then◌else◌, List, [], ◌∷◌, length, map, Option, Some, None, refl, sym, ap, subst, arith}
use Rattle.std.proofs.lemmas.Bool.{eqb-true, eq-eqb}
use Rattle.std.proofs.lemmas.List.{length-map}
use Rattle.std.specs.List.{range_with_len}
use Rattle.std.specs.Prelude.{Contains, slice_get, slice_index_or}
use Rattle.tf_plan_data.specs.Action.{ActionView, StepView, create, update, replacement}
use Rattle.tf_plan_data.specs.Precedence.{kind_of, ordered}
use Rattle.tf_config_address.specs.ObjectId.{InstanceKeyView}
use Rattle.tf_config_address.specs.Same.{same_instance_key}
use Rattle.tf_config_data.specs.Names.{NameView, meant_at}
use Rattle.tf_graph.proofs.Edges.{contains_cases, contains_head, contains_tail, source-from_edge}
use Rattle.tf_graph.specs.Digraph.{Digraph, predecessors_of}
use Rattle.tf_graph.specs.Solutions.{seen_by}
use Rattle.tf_walk_action.specs.Objects.{is_of, object_of, objects_seen, prior_object}
use Rattle.tf_walk_action.specs.Outcome.{ActionResultView}
use Rattle.tf_plan_planner.proofs.Distinct.{at-contained}
use Rattle.tf_plan_planner.proofs.Fitting.{AreFit}
use Rattle.tf_plan_planner.proofs.Objects.{one_key}
use Rattle.tf_plan_planner.specs.Ordered.{IsOrdered}
use Rattle.tf_plan_data.specs.Fits.{IsPlaced, deposed_key, is_apply}
use Rattle.tf_plan_order.proofs.Listed.{pairs-those}
use Rattle.tf_plan_order.specs.Before.{Before, needed_first}
use Rattle.tf_plan_order.specs.Order.{action_at, no_action}
use Rattle.tf_plan_order.specs.OrderInput.{OrderInputView}
use Rattle.tf_plan_order.specs.declared.action.OrderedAction.{OrderedAction as Ordered}
use Rattle.tf_plan_order.specs.declared.action.ActionKind.TheVariants.{Apply}
use Rattle.tf_provider_protocol.specs.Meaning.{Meaning}
use Rattle.tf_walk_report.proofs.Apart.{apply_is_current}
use Rattle.tf_plan_order.proofs.Standing.{places-differ}
use Rattle.tf_plan_order.specs.ResourceIndex.{numbered}
use Rattle.tf_state_data.specs.Resource.{ResourceView}
use Rattle.tf_state_data.specs.State.{StateView}
use Rattle.tf_value_data.proofs.Conjunction.{and-both, and-first, and-second}
use Rattle.tf_value_data.specs.Tree.{Tree}
use Rattle.tf_laws.proofs.Lists.{all_contained, got_within, in_range, nothing_in}
use Rattle.tf_laws.proofs.Members.{same_key}

-- ---- what is seen of an instance

-- an action at a place creates or updates an instance of the resource of a number
pub record IsApplyOf (actions : List ActionView) (place : ℕ) (key : InstanceKeyView) (j : ℕ) : Type 0 where
  pub a : ActionView
  pub at : slice_get actions j ≡ Some a
  pub applies : is_apply a.step ≡ true
  pub resource : a.resource ≡ place
  pub key_is : a.key ≡ key

-- an instance stands for what a seen action answered, or for its prior object where none is seen that creates or updates it
abbrev pub IsSeen : List NameView → StateView → List ActionView → (ℕ → ActionResultView) → ℕ → InstanceKeyView → List ℕ → Tree → Type 0
IsSeen names prior actions results place key ks t =
    ((j : ℕ) × Contains ks j × IsApplyOf actions place key j × (t ≡ object_of (results j)))
    ⊎ (((j : ℕ) → Contains ks j → IsApplyOf actions place key j → ⊥) × (t ≡ prior_object prior key (meant_at names place)))

module _ (names : List NameView) (prior : StateView) (actions : List ActionView) (results : ℕ → ActionResultView) (place : ℕ) (key : InstanceKeyView) where
  of_test : (j : ℕ) (o : Option ActionView) → slice_get actions j ≡ o → is_of o place key ≡ true → IsApplyOf actions place key j
  of_test j None e h = absurd (cc)
  of_test j (Some a) e h =
      let both = and-first (is_apply a.step && a.resource == place) (same_instance_key a.key key) h in
      record {
        a = a;
        at = e;
        applies = and-first (is_apply a.step) (a.resource == place) both;
        resource = eqb-true a.resource place (and-second (is_apply a.step) (a.resource == place) both);
        key_is = one_key a.key key (and-second (is_apply a.step && a.resource == place) (same_instance_key a.key key) h);
      }

  to_test : (j : ℕ) → IsApplyOf actions place key j → is_of (slice_get actions j) place key ≡ true
  to_test j is =
      ap (λ (o : Option ActionView). is_of o place key) is.at
      ∙ and-both (is_apply is.a.step && is.a.resource == place) (same_instance_key is.a.key key) (and-both (is_apply is.a.step) (is.a.resource == place) is.applies (eq-eqb is.a.resource place is.resource))
      (subst (λ (k : InstanceKeyView). same_instance_key is.a.key k ≡ true) is.key_is (same_key is.a.key))

  pub seen_of : (ks : List ℕ) → IsSeen names prior actions results place key ks (objects_seen names prior actions (seen_by results ks) place key)
  seen_of [] = inr (λ j c is. nothing_in j c, refl)
  seen_of (m ∷ ks) = by_test (is_of (slice_get actions m) place key) refl (seen_of ks)
    where
      by_test : (b : Bool) → is_of (slice_get actions m) place key ≡ b → IsSeen names prior actions results place key ks (objects_seen names prior actions (seen_by results ks) place key)
          → IsSeen names prior actions results place key (m ∷ ks) (if b then object_of (results m) else objects_seen names prior actions (seen_by results ks) place key)
      by_test true is again = inl (m, contains_head m m ks refl, of_test m (slice_get actions m) refl is, refl)
      by_test false is (inl x) = inl (x.0, contains_tail x.0 m ks x.1, x.2, x.3)
      by_test false is (inr x) = inr (none, x.1)
        where
          none : (j : ℕ) → Contains (m ∷ ks) j → IsApplyOf actions place key j → ⊥
          none j c of = elim (contains_cases j m ks c) [
            | inl here ↦
                let yes : is_of (slice_get actions m) place key ≡ true = ap (λ (i : ℕ). is_of (slice_get actions i) place key) here ∙ to_test j of in
                absurd (cc)
            | inr later ↦ x.0 j later of
          ]

-- ---- one action for an instance

apply_kind : (s : StepView) → is_apply s ≡ true → kind_of s ≡ Apply
apply_kind (create t) h = refl
apply_kind (update p t ns) h = refl
apply_kind (replacement t ns) h = refl
apply_kind _ h = absurd (cc)

module _ (ms : List Meaning) (names : List NameView) (resources : List ResourceView) (actions : List ActionView) (fit : AreFit ms names resources actions) where
  placed : (j : ℕ) (a : ActionView) → slice_get actions j ≡ Some a → IsPlaced (numbered names resources) a
  placed j a at = all_contained (IsPlaced (numbered names resources)) actions a fit.placed (at-contained actions j a at)

  -- at most one action creates or updates an instance
  pub one_apply : (place : ℕ) (key : InstanceKeyView) (i j : ℕ) → IsApplyOf actions place key i → IsApplyOf actions place key j → i ≡ j
  one_apply place key i j p q =
      let addr : p.a.addr ≡ q.a.addr = places-differ (numbered names resources) p.a.addr q.a.addr place (placed i p.a p.at ∙ ap Some p.resource) (placed j q.a q.at ∙ ap Some q.resource) in
      let key_same : p.a.key ≡ q.a.key = p.key_is ∙ sym q.key_is in
      let applies : is_apply p.a.step ≡ is_apply q.a.step = p.applies ∙ sym q.applies in
      let deposed : deposed_key p.a.step ≡ deposed_key q.a.step = apply_is_current p.a.step p.applies ∙ sym (apply_is_current q.a.step q.applies) in
      fit.apart i j p.a q.a p.at q.at (λ t. record { addr = addr t; key = key_same t; applies = applies t; deposed = deposed t })

-- ---- what stands directly before an action

at_mapped : (actions : List ActionView) (j : ℕ) (a : ActionView) → slice_get actions j ≡ Some a → slice_index_or (map ordered actions) j no_action ≡ ordered a
at_mapped [] j a e = absurd (cc)
at_mapped (b ∷ actions) zero a e = let same : b ≡ a = (cc) in ap ordered same
at_mapped (b ∷ actions) (suc j) a e = at_mapped actions j a e

module _ (names : List NameView) (resources : List ResourceView) (needs : ℕ → ℕ → Bool) (late : ℕ → Bool) (actions : List ActionView) (order : Digraph) (is : IsOrdered names resources needs late actions order) where
  -- what makes or changes what an action needs stands directly before it
  pub needed_before : (k j : ℕ) (a b : ActionView) → slice_get actions k ≡ Some a → slice_get actions j ≡ Some b → is_apply a.step ≡ true → is_apply b.step ≡ true → needs a.resource b.resource ≡ true
      → Contains (predecessors_of order k) j
  needed_before k j a b at_k at_j applies_a applies_b need =
      let t : OrderInputView = record { needs = needs; needed = is.needed; late = late } in
      let all : List Ordered = map ordered actions in
      let long : length (map ordered actions) ≡ length actions = length-map actions ordered in
      let inside_k : k < length (map ordered actions) = omega (arith, long, got_within actions k a at_k) in
      let inside_j : j < length (map ordered actions) = omega (arith, long, got_within actions j b at_j) in
      let by_views : Before (record { needs = needs; needed = is.needed; late = late }) (ordered b) (ordered a) = needed_first (ordered b) (ordered a) (apply_kind b.step applies_b) (apply_kind a.step applies_a) need in
      let by_first : Before (record { needs = needs; needed = is.needed; late = late }) (action_at (map ordered actions) j) (ordered a) =
      subst (λ (o : Ordered). Before (record { needs = needs; needed = is.needed; late = late }) o (ordered a)) (sym (at_mapped actions j b at_j)) by_views in
      let by_both : Before (record { needs = needs; needed = is.needed; late = late }) (action_at (map ordered actions) j) (action_at (map ordered actions) k) =
      subst (λ (o : Ordered). Before (record { needs = needs; needed = is.needed; late = late }) (action_at (map ordered actions) j) o) (sym (at_mapped actions k a at_k)) by_first in
      let pair = ((pairs-those (record { needs = needs; needed = is.needed; late = late }) (map ordered actions)).0 j k).1 (inside_j, inside_k, by_both) in
      source-from_edge order.edges k j (subst (λ (es : List (ℕ × ℕ)). Contains es (j, k)) (sym is.edges) pair)

-- ---- the objects

module _ (ms : List Meaning) (names : List NameView) (prior : StateView) (resources : List ResourceView) (needs : ℕ → ℕ → Bool) (late : ℕ → Bool) (actions : List ActionView) (order : Digraph) (results : ℕ → ActionResultView)
    (fit : AreFit ms names resources actions) (is : IsOrdered names resources needs late actions order) where
  -- of what an action needs, what came of the actions directly before it is what came of all
  pub objects_agree : (k : ℕ) (a : ActionView) → slice_get actions k ≡ Some a → is_apply a.step ≡ true → (place : ℕ) (key : InstanceKeyView) → needs a.resource place ≡ true
      → objects_seen names prior actions (seen_by results (predecessors_of order k)) place key ≡ objects_seen names prior actions (seen_by results (range_with_len 0 (length actions))) place key
  objects_agree k a at applies place key need =
      by_both (seen_of names prior actions results place key (range_with_len 0 (length actions))) (seen_of names prior actions results place key (predecessors_of order k))
    where
      by_both : {t u : Tree} → IsSeen names prior actions results place key (range_with_len 0 (length actions)) t → IsSeen names prior actions results place key (predecessors_of order k) u → u ≡ t
      by_both (inl f) (inl p) = p.3 ∙ ap (λ (j : ℕ). object_of (results j)) (one_apply ms names resources actions fit place key p.0 f.0 p.2 f.2) ∙ sym f.3
      by_both (inl f) (inr p) =
          let own : needs a.resource f.2.a.resource ≡ true = ap (needs a.resource) f.2.resource ∙ need in
          absurd (p.0 f.0 (needed_before names resources needs late actions order is k f.0 a f.2.a at f.2.at applies f.2.applies own) f.2)
      by_both (inr f) (inl p) = absurd (f.0 p.0 (in_range 0 (length actions) p.0 (omega arith) (omega (arith, got_within actions p.0 p.2.a p.2.at))) p.2)
      by_both (inr f) (inr p) = p.1 ∙ sym f.1
