-- What is refused of names, outputs and resources, by the stage that refuses it.
use Rattle.std.proofs.Common.{◌≡◌, ◌≤◌, inl, inr, ℕ, List, [], length, subst}
use Rattle.tf_plan_data.specs.Action.{ActionView}
use Rattle.tf_config_data.specs.Names.{NameView}
use Rattle.tf_expand_keys.specs.InstanceKeys.{InstanceKeysView}
use Rattle.tf_plan_planner.proofs.Refusing.{tells-weaker}
use Rattle.tf_plan_planner.specs.Plan.{max_actions}
use Rattle.tf_plan_planner.specs.Planned.{AreInstances, IsPlanned, PlannedView, unrefused}
use Rattle.tf_plan_planner.specs.Refused.{AreRefusedIn, AreRefusedOf, AreRefusedOfSome, AreUnplanned, HasManyPairs, Tells}
use Rattle.tf_plan_planner.specs.declared.refused.Refused.{Refused}
use Rattle.tf_provider_protocol.specs.Meaning.{Meaning}
use Rattle.tf_config_refusal.specs.Refusal.{RefusalView}
use Rattle.tf_state_data.specs.Resource.{ResourceView}
use Rattle.tf_expr_syntax.specs.ExprTree as expr
use Rattle.tf_value_data.specs.Tree.{Entries}

module _ (ms : List Meaning) (resources : List ResourceView) (variables : Entries) (names : List NameView) (outputs : expr.Entries) (shapes : ℕ → InstanceKeysView) (instances : AreInstances variables names shapes) where
  still : (planned : PlannedView) (refusal_views : List RefusalView) → planned.refusals ≡ refusal_views → IsPlanned ms resources variables names outputs shapes planned
      → IsPlanned ms resources variables names outputs shapes (record { actions = planned.actions; refusals = refusal_views })
  still planned refusal_views e is = subst (IsPlanned ms resources variables names outputs shapes) (λ i. record { actions = planned.actions; refusals = e i }) is

  refused-in : (refusal_views : List RefusalView) (planned : PlannedView) → IsPlanned ms resources variables names outputs shapes planned → AreRefusedIn planned refusal_views → AreUnplanned ms resources variables names outputs refusal_views
  refused-in refusal_views planned is (inl h) =
      inl
      (record {
        shapes = shapes;
        actions = planned.actions;
        instances = instances;
        planned = still planned refusal_views h.1 is;
        some = h.0;
      })
  refused-in refusal_views planned is (inr h) =
      inr
      (inl
      (record {
        shapes = shapes;
        actions = planned.actions;
        instances = instances;
        planned = still planned [] h.0 is;
        many = h.1;
        refused = h.2;
      }))

  pub unplanned : (refused : Refused) → Tells (AreRefusedOfSome (IsPlanned ms resources variables names outputs shapes)) refused → Tells (AreRefusedOf ms resources variables names outputs) refused
  unplanned refused told =
      tells-weaker (AreRefusedOfSome (IsPlanned ms resources variables names outputs shapes)) (AreRefusedOf ms resources variables names outputs) refused
      (λ refusal_views h. inr (refused-in refusal_views h.0 h.1 h.2)) told

  pub many_pairs : (actions : List ActionView) (refused : Refused) → IsPlanned ms resources variables names outputs shapes (unrefused actions) → length actions ≤ max_actions → Tells (HasManyPairs names resources actions) refused
      → Tells (AreRefusedOf ms resources variables names outputs) refused
  many_pairs actions refused planned few told =
      tells-weaker (HasManyPairs names resources actions) (AreRefusedOf ms resources variables names outputs) refused
      (λ refusal_views h. inr (inr (inr (record { shapes = shapes; actions = actions; instances = instances; planned = planned; few = few; pairs = h })))) told
