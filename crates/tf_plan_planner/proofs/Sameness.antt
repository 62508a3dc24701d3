-- Where each name stands for the same, the same is planned.
use Rattle.std.proofs.Common.{◌≡◌, ◌<◌, ◌++◌, ℕ, Option, Some, None, List, [], ◌∷◌, map, length, if◌then◌else◌, refl, ap}
use Rattle.std.specs.List.{AllByRecursion, flat_map}
use Rattle.std.specs.Prelude.{codes, slice_get}
use Rattle.std.specs.Str.{bytes_eq}
use Rattle.tf_config_data.specs.Names.{NameView, Meant, a_local, a_block, meant_at, refers_at, directly_before, place_before, place_of, places}
use Rattle.tf_plan_decision.specs.Deciding.{instance_actions, instance_refusals}
use Rattle.tf_plan_decision.specs.Whole.{block_instances, instances, instances_at, name_instances}
use Rattle.tf_expand_keys.proofs.Places.{all_places}
use Rattle.tf_expand_keys.specs.InstanceKeys.{InstanceKeysView}
use Rattle.tf_expand_keys.specs.Resolved.{ResolvedView, all_stand, answer_at, environment, or_missing}
use Rattle.tf_expr_eval.specs.ExprMeaning.{meaning}
use Rattle.tf_graph.proofs.Solving.{seen_by-same}
use Rattle.tf_graph.specs.Solutions.{seen_by}
use Rattle.tf_expr_operators.specs.Answer.{Answer, present_value}
use Rattle.tf_plan_planner.proofs.Listing.{planned_in}
use Rattle.tf_plan_planner.specs.Outputs.{output_fault, output_refusal, output_refusals}
use Rattle.tf_plan_planner.specs.Told.{instance_told}
use Rattle.tf_provider_protocol.specs.Meaning.{Meaning}
use Rattle.tf_plan_order.specs.ResourceIndex.{ResourceRefView, a_name, an_orphan, numbered}
use Rattle.tf_state_data.specs.Resource.{ResourceView}
use Rattle.tf_expr_syntax.specs.ExprNames.{named_by}
use Rattle.tf_expr_syntax.specs.ExprTree as expr
use Rattle.tf_value_data.specs.Tree.{Entries, get}

module _ (variables : Entries) (names : List NameView) (kept resolved_names : ℕ → ResolvedView) (same : (n : ℕ) → n < length names → kept n ≡ resolved_names n) where
  answer-same : (o : Option ℕ) → AllByRecursion (λ a. kept a ≡ resolved_names a) (place_before o []) → answer_at kept o ≡ answer_at resolved_names o
  answer-same None h = refl
  answer-same (Some n) h = ap or_missing h.0

  reference-same : (first name : List ℕ) → environment variables names kept first name ≡ environment variables names resolved_names first name
  reference-same first name =
      ap (λ (a : Answer). if bytes_eq first (codes "var") then present_value (get name variables) else a)
      (answer-same (place_of names (first, name)) (all_places (λ a. kept a ≡ resolved_names a) names ((first, name) ∷ []) same))

  -- references stand for the same
  pub environment-same : environment variables names kept ≡ environment variables names resolved_names
  environment-same i = λ first name. reference-same first name i

  -- the same is seen
  pub seen-same : (n : ℕ) → seen_by kept (directly_before names n) ≡ seen_by resolved_names (directly_before names n)
  seen-same n = seen_by-same kept resolved_names (directly_before names n) (all_places (λ a. kept a ≡ resolved_names a) names (refers_at (meant_at names n)) same)

  module _ (ms : List Meaning) (resources : List ResourceView) (shapes : ℕ → InstanceKeysView) where
    meant-same : (n : ℕ) (m : Meant) → name_instances ms resources variables names shapes kept n m ≡ name_instances ms resources variables names shapes resolved_names n m
    meant-same n (a_local e) = refl
    meant-same n (a_block block) = (λ i. if all_stand (seen-same n i) then block_instances ms resources n block (environment-same i) (shapes n) else [])

    numbered-same : (n : ℕ) (o : Option ResourceRefView) → instances_at ms resources variables names shapes kept n o ≡ instances_at ms resources variables names shapes resolved_names n o
    numbered-same n None = refl
    numbered-same n (Some (a_name name)) = meant-same n name.meant
    numbered-same n (Some (an_orphan r)) = refl

    instances-same : (order : List ℕ) → instances ms resources variables names shapes kept order ≡ instances ms resources variables names shapes resolved_names order
    instances-same order = (λ i. flat_map (λ n. numbered-same n (slice_get (numbered names resources) n) i) order)

  output-same : (name : List ℕ) (e : expr.Tree) → output_refusal variables names kept name e ≡ output_refusal variables names resolved_names name e
  output-same name e =
      let seen : seen_by kept (places names (named_by e)) ≡ seen_by resolved_names (places names (named_by e)) =
      seen_by-same kept resolved_names (places names (named_by e)) (all_places (λ a. kept a ≡ resolved_names a) names (named_by e) same) in
      (λ i. if all_stand (seen i) then output_fault name (meaning (environment-same i) e) else [])

  outputs-same : (outputs : expr.Entries) → output_refusals variables names kept outputs ≡ output_refusals variables names resolved_names outputs
  outputs-same expr.no_entries = refl
  outputs-same (expr.entry name e es) = (λ i. output-same name e i ++ outputs-same es i)

  pub planned-same : (ms : List Meaning) (resources : List ResourceView) (outputs : expr.Entries) (shapes : ℕ → InstanceKeysView) (order : List ℕ)
      → planned_in ms resources variables names outputs shapes order kept ≡ planned_in ms resources variables names outputs shapes order resolved_names
  planned-same ms resources outputs shapes order =
      let all = instances-same ms resources shapes order in
      let told = outputs-same outputs in
      (λ i. record { actions = flat_map instance_actions (all i); refusals = map instance_told (flat_map instance_refusals (all i)) ++ told i })
