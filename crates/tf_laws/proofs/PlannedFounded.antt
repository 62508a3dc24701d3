-- Each plan of a configuration is founded.
use Rattle.std.proofs.Common.{◌≡◌, ◌∙◌, inl, inr, ℕ, Bool, true, false, List, length, map, sym, ap, subst, arith}
use Rattle.std.proofs.lemmas.List.{get_or-map, length-map}
use Rattle.std.specs.List.{AllByRecursion}
use Rattle.std.specs.List.Sorted.{IsStrictlySortedBy}
use Rattle.std.specs.Prelude.{Contains}
use Rattle.tf_plan_data.specs.Precedence.{ordered}
use Rattle.tf_config_address.specs.ResourceAddr.{addr_cmp}
use Rattle.tf_config_data.specs.Config.{ConfigView}
use Rattle.tf_config_data.specs.Names.{directly_before, names_of}
use Rattle.tf_graph.specs.Digraph.{Digraph, predecessors_of}
use Rattle.tf_graph.specs.Path.{Path, Reaches, direct, joined, onward}
use Rattle.tf_graph.specs.Solutions.{Ranked, StaysBelow}
use Rattle.tf_config_names.specs.Needs.{IsAcyclic}
use Rattle.tf_plan_planner.proofs.Blocks.{names-apart}
use Rattle.tf_plan_planner.proofs.Fitting.{AreFit, plan-fits}
use Rattle.tf_plan_planner.specs.Ordered.{IsOrdered, stored_graph}
use Rattle.tf_plan_planner.specs.Plan.{IsPlan}
use Rattle.tf_plan_data.specs.Fits.{IsDeclared}
use Rattle.tf_plan_data.specs.Plan.{PlanView}
use Rattle.tf_plan_order.proofs.Listed.{pairs-order}
use Rattle.tf_plan_order.specs.Late.{IsLate, Leads}
use Rattle.tf_plan_order.specs.Order.{IsOrder}
use Rattle.tf_plan_order.specs.Stored.{Needed, turned}
use Rattle.tf_plan_order.specs.OrderInput.{AreSound, OrderInputView}
use Rattle.tf_provider_protocol.specs.Meaning.{Meaning}
use Rattle.tf_plan_order.specs.Dependencies.{dependencies}
use Rattle.tf_plan_order.specs.Marks.{is_marked}
use Rattle.tf_plan_order.specs.ResourceIndex.{numbered}
use Rattle.tf_state.specs.Valid.{IsPresent, IsValid}
use Rattle.tf_state_data.specs.Ids.{AreById}
use Rattle.tf_state_data.specs.State.{StateView}
use Rattle.tf_value_data.specs.Tree.{Entries}
use Rattle.tf_laws.proofs.Lists.{all_weaker}
use Rattle.tf_laws.specs.Founded.{IsFounded}
use Rattle.tf_laws.specs.Planned.{PlansAreFounded}

-- ---- what ties the resources of a plan together is sound

abbrev turn : ℕ × ℕ → ℕ × ℕ
turn e = (e.1, e.0)

turned_in : (pairs : List (ℕ × ℕ)) (a b : ℕ) → Contains pairs (a, b) → Contains (turned pairs) (b, a)
turned_in pairs a b c = (c.0, omega (arith, c.1, length-map pairs turn), get_or-map turn pairs c.0 (a, b) (b, a) c.1 ∙ ap turn c.2)

-- what was needed leads to what needed it
needed_leads : (nodes : ℕ) (pairs : List (ℕ × ℕ)) (a b : ℕ) → Needed pairs a b → Reaches (record { nodes = nodes; edges = turned pairs }) b a
needed_leads nodes pairs _ _ (direct a b c) = direct b a (turned_in pairs a b c)
needed_leads nodes pairs _ _ (onward a b d c p) = joined d b a (needed_leads nodes pairs b d p) (direct b a (turned_in pairs a b c))

late_onward : (needs needed : Digraph) (marked : List Bool) (a b : ℕ) → IsLate needs needed marked a → Leads needs needed a b → IsLate needs needed marked b
late_onward needs needed marked a b is lead = (
  is.0,
  is.1,
  elim is.2 [
    | inl same ↦ inr (subst (λ k. Path (Leads needs needed) k b) (sym same) (direct a b lead))
    | inr path ↦ inr (joined is.0 a b path (direct a b lead))
  ],
)

module _ (ms : List Meaning) (config : ConfigView) (variables : Entries) (prior : StateView) (plan : PlanView) (is : IsPlan ms config variables prior plan) (needs_none : (n : ℕ) → plan.needs n n ≡ false) where
  own_order : IsOrdered (names_of config) prior.resources plan.needs plan.late plan.actions plan.order
  own_order = is.planned.ordered

  own_acyclic : IsAcyclic own_order.tied.dependence
  own_acyclic n = sym (ap (λ (f : ℕ → ℕ → Bool). f n n) own_order.tied.needs) ∙ needs_none n

  abbrev own_ties : OrderInputView
  own_ties = record { needs = plan.needs; needed = own_order.needed; late = plan.late }

  own_sound : AreSound own_ties
  own_sound = record {
    strict =
        record {
          irreflexive = needs_none;
          transitive =
              subst (λ (f : ℕ → ℕ → Bool). (a b c : ℕ) → f a b ≡ true → f b c ≡ true → f a c ≡ true) (sym own_order.tied.needs) own_order.tied.is_dependence.transitive;
        };
    onward = λ a b c h k. (own_order.tied.needed a c).1 (joined a b c ((own_order.tied.needed a b).0 h) ((own_order.tied.needed b c).0 k));
    spreads = λ a b h k.
        let all = numbered (names_of config) prior.resources in
        let reach : Reaches (stored_graph all prior.resources) b a = needed_leads (length all) (dependencies all prior.resources) a b ((own_order.tied.needed a b).0 k) in
        (own_order.tied.late b).1
        (late_onward own_order.tied.dependence.graph (stored_graph all prior.resources) (map is_marked all) a b ((own_order.tied.late a).0 h) (inr reach));
  }

  own_is_order : IsOrder plan.order
  own_is_order = pairs-order own_ties (map ordered plan.actions) own_sound plan.order (own_order.nodes ∙ sym (length-map plan.actions ordered)) own_order.edges

  own_fit : IsStrictlySortedBy addr_cmp (map (λ b. b.addr) config.blocks) → IsValid prior → AreFit ms (names_of config) prior.resources plan.actions
  own_fit sorted valid =
      plan-fits ms prior.resources variables (names_of config) config.outputs plan.shapes plan.actions is.planned.instances is.planned.planned
      (names-apart config sorted) valid.resources.1 (all_weaker IsPresent (λ r. AreById r.records) prior.resources (λ r present. present.0.records.1) valid.resources.0)

  pub plan_founded : IsStrictlySortedBy addr_cmp (map (λ b. b.addr) config.blocks) → IsValid prior → IsFounded plan
  plan_founded sorted valid = record {
    names = subst (λ (c : ConfigView). Ranked (directly_before (names_of c))) (sym is.config) (own_order.tied.is_dependence.ranked own_acyclic);
    order = own_is_order.ranked;
    within = subst (λ (k : ℕ). StaysBelow k (predecessors_of plan.order)) own_order.nodes own_is_order.below;
    declared = subst (λ (c : ConfigView). AllByRecursion (IsDeclared (names_of c)) plan.actions) (sym is.config) (own_fit sorted valid).declared;
  }

pub planned_founded : PlansAreFounded
planned_founded ms config variables prior plan is needs_none sorted valid = plan_founded ms config variables prior plan is needs_none sorted valid
