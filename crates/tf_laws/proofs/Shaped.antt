-- By the same instances the same is planned.
use Rattle.std.proofs.Common.{◌≡◌, ◌∙◌, ◌<◌, ◌++◌, ℕ, if◌then◌else◌, List, [], Option, None, Some, length, map, refl, ap}
use Rattle.std.specs.List.{flat_map}
use Rattle.std.specs.Prelude.{slice_get}
use Rattle.tf_config_data.specs.Names.{NameView, Meant, a_local, a_block, directly_before, meant_at}
use Rattle.tf_plan_decision.proofs.Standing.{named_within}
use Rattle.tf_plan_decision.specs.Deciding.{instance_actions, instance_refusals}
use Rattle.tf_plan_decision.specs.Stage.{all_can_go, decided_object, deciding}
use Rattle.tf_plan_decision.specs.Whole.{block_instances, instances, instances_at, name_instances}
use Rattle.tf_expand_keys.specs.InstanceKeys.{InstanceKeysView}
use Rattle.tf_expand_keys.specs.Resolved.{ResolvedView, AreResolvedNames, all_stand, environment, result_in, stands_at, together, where_all}
use Rattle.tf_expr_eval.specs.Environment.{Environment}
use Rattle.tf_graph.specs.Solutions.{Ranked, seen_by}
use Rattle.tf_plan_planner.proofs.Listing.{planned-there, planned_in}
use Rattle.tf_plan_planner.proofs.Solved.{planned-by}
use Rattle.tf_plan_planner.specs.Outputs.{output_refusals}
use Rattle.tf_plan_planner.specs.Planned.{IsPlanned, PlannedView}
use Rattle.tf_plan_planner.specs.Told.{instance_told}
use Rattle.tf_provider_protocol.specs.Meaning.{Meaning}
use Rattle.tf_plan_order.specs.ResourceLaws.{AreApart}
use Rattle.tf_plan_order.specs.ResourceIndex.{ResourceRefView, a_name, an_orphan, numbered}
use Rattle.tf_state_data.specs.Resource.{ResourceView}
use Rattle.tf_expr_syntax.specs.ExprTree as expr
use Rattle.tf_value_data.specs.Tree.{Entries}
use Rattle.tf_laws.proofs.PlacesSorted.{one_order}

module _ (ms : List Meaning) (resources : List ResourceView) (variables : Entries) (names : List NameView) (shapes others : ℕ → InstanceKeysView) (same : (n : ℕ) → n < length names → shapes n ≡ others n) where
  stands_same : (n : ℕ) (m : Option Meant) (env : Environment) → n < length names → stands_at (deciding ms resources shapes) n m env ≡ stands_at (deciding ms resources others) n m env
  stands_same n None env h = refl
  stands_same n (Some (a_local e)) env h = refl
  stands_same n (Some (a_block block)) env h = ap (λ (s : InstanceKeysView). together (if all_can_go ms resources s block then Some s else None) (decided_object ms resources n block env)) (same n h)

  -- resolved names by the ones are resolved names by the others
  solves_too : (resolved_names : ℕ → ResolvedView) → AreResolvedNames (deciding ms resources shapes) variables names resolved_names → AreResolvedNames (deciding ms resources others) variables names resolved_names
  solves_too resolved_names solves k h =
      solves k h ∙ ap (where_all (all_stand (seen_by resolved_names (directly_before names k)))) (stands_same k (meant_at names k) (environment variables names (result_in (seen_by resolved_names (directly_before names k)))) h)

  module _ (resolved_names : ℕ → ResolvedView) where
    meant_same : (n : ℕ) (m : Meant) → n < length names → name_instances ms resources variables names shapes resolved_names n m ≡ name_instances ms resources variables names others resolved_names n m
    meant_same n (a_local e) h = refl
    meant_same n (a_block block) h =
        ap (λ (s : InstanceKeysView). if all_stand (seen_by resolved_names (directly_before names n)) then block_instances ms resources n block (environment variables names resolved_names) s else []) (same n h)

    numbered_same : (n : ℕ) (o : Option ResourceRefView) → slice_get (numbered names resources) n ≡ o → instances_at ms resources variables names shapes resolved_names n o ≡ instances_at ms resources variables names others resolved_names n o
    numbered_same n None e = refl
    numbered_same n (Some (a_name name)) e = meant_same n name.meant (named_within (numbered names resources) names resources n name refl e)
    numbered_same n (Some (an_orphan r)) e = refl

    instances_same : (order : List ℕ) → instances ms resources variables names shapes resolved_names order ≡ instances ms resources variables names others resolved_names order
    instances_same order = (λ i. flat_map (λ n. numbered_same n (slice_get (numbered names resources) n) refl i) order)

    planned_same : (outputs : expr.Entries) (order : List ℕ) → planned_in ms resources variables names outputs shapes order resolved_names ≡ planned_in ms resources variables names outputs others order resolved_names
    planned_same outputs order =
        let all = instances_same order in
        (λ i. record { actions = flat_map instance_actions (all i); refusals = map instance_told (flat_map instance_refusals (all i)) ++ output_refusals variables names resolved_names outputs })

  -- so the same is planned of both
  pub one_planned : (outputs : expr.Entries) (p q : PlannedView) → Ranked (directly_before names) → AreApart (numbered names resources) → IsPlanned ms resources variables names outputs shapes p
      → IsPlanned ms resources variables names outputs others q → p ≡ q
  one_planned outputs p q ranked apart is also =
      planned-there ms resources variables names outputs shapes p is ∙ planned_same is.resolved_names outputs is.places
      ∙ ap (λ (order : List ℕ). planned_in ms resources variables names outputs others order is.resolved_names) (one_order (numbered names resources) apart is.places also.places is.in_order also.in_order)
      ∙ planned-by variables names ranked ms resources outputs others q also is.resolved_names (solves_too is.resolved_names is.stand)
