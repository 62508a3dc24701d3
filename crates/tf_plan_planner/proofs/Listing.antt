-- The actions of all instances, as one list: of each place those of its members, one after another.
use Rattle.std.proofs.Common.{◌≡◌, ◌∙◌, ◌+◌, ◌++◌, Bool, true, false, cond, if◌then◌else◌, ℕ, List, [], ◌∷◌, Option, Some, None, map, refl, ap}
use Rattle.std.specs.List.{enumerate_from, flat_map}
use Rattle.std.specs.Prelude.{slice_get}
use Rattle.tf_plan_data.specs.Action.{ActionView}
use Rattle.tf_config_address.specs.ObjectId.{InstanceKeyView}
use Rattle.tf_config_data.specs.Config.{BlockView}
use Rattle.tf_config_data.specs.Names.{NameView, Meant, a_local, a_block, directly_before}
use Rattle.tf_plan_decision.proofs.Appending.{flat_flat, numbered_outcome}
use Rattle.tf_plan_decision.specs.Deciding.{OfView, action, instance_actions, instance_refusals, of_at, steps_in}
use Rattle.tf_plan_decision.specs.Outcome.{OutcomeView, member_outcome, orphan_outcome}
use Rattle.tf_plan_decision.specs.Stage.{block_members}
use Rattle.tf_plan_decision.specs.Whole.{block_instances, instances, instances_at, name_instances}
use Rattle.tf_expand_keys.specs.InstanceKeys.{InstanceKeysView}
use Rattle.tf_expand_keys.specs.Resolved.{ResolvedView, all_stand, environment}
use Rattle.tf_expr_eval.specs.Environment.{Environment}
use Rattle.tf_graph.specs.Solutions.{seen_by}
use Rattle.tf_plan_order.specs.Members.{InstanceToPlanView, members}
use Rattle.tf_plan_planner.specs.Outputs.{output_refusals}
use Rattle.tf_plan_planner.specs.Planned.{IsPlanned, PlannedView}
use Rattle.tf_plan_planner.specs.Told.{instance_told}
use Rattle.tf_provider_protocol.specs.Meaning.{Meaning, schema_in}
use Rattle.tf_plan_order.specs.ResourceIndex.{ResourceRefView, a_name, an_orphan, numbered}
use Rattle.tf_state_data.specs.Resource.{ResourceView}
use Rattle.tf_expr_syntax.specs.ExprTree as expr
use Rattle.tf_value_data.specs.Tree.{Entries}

-- ---- the actions of members

-- the actions of an instance
abbrev pub outcome_actions : OfView → ℕ → InstanceKeyView → OutcomeView → List ActionView
outcome_actions of i key o = map (action of i key) (steps_in o)

abbrev pub member_actions : OfView → (InstanceToPlanView → OutcomeView) → ℕ → List InstanceToPlanView → List ActionView
member_actions of becomes i [] = []
member_actions of becomes i (m ∷ ms) = outcome_actions of i m.key (becomes m) ++ member_actions of becomes (i + 1) ms

members-listed : (of : OfView) (becomes : InstanceToPlanView → OutcomeView) (i : ℕ) (ms : List InstanceToPlanView)
    → flat_map instance_actions (map (numbered_outcome of becomes) (enumerate_from i ms)) ≡ member_actions of becomes i ms
members-listed of becomes i [] = refl
members-listed of becomes i (m ∷ ms) = ap (λ xs. outcome_actions of i m.key (becomes m) ++ xs) (members-listed of becomes (i + 1) ms)

-- ---- the actions of what stands at places

abbrev pub block_actions : List Meaning → List ResourceView → ℕ → BlockView → Environment → InstanceKeysView → List ActionView
block_actions ms resources n block env shape =
    member_actions (of_at ms n block.addr) (member_outcome (schema_in block.addr.type_name ms) block env) 0 (block_members shape block resources)

abbrev pub orphan_actions : List Meaning → ℕ → ResourceView → List ActionView
orphan_actions ms n r = member_actions (of_at ms n r.addr) (orphan_outcome (schema_in r.addr.type_name ms)) 0 (members [] r.records)

module _ (ms : List Meaning) (resources : List ResourceView) (variables : Entries) (names : List NameView) (shapes : ℕ → InstanceKeysView) (resolved_names : ℕ → ResolvedView) where
  abbrev pub meant_actions : ℕ → Meant → List ActionView
  meant_actions n (a_local e) = []
  meant_actions n (a_block block) =
      if all_stand (seen_by resolved_names (directly_before names n)) then block_actions ms resources n block (environment variables names resolved_names) (shapes n) else []

  abbrev pub place_actions : ℕ → Option ResourceRefView → List ActionView
  place_actions n None = []
  place_actions n (Some (a_name name)) = meant_actions n name.meant
  place_actions n (Some (an_orphan r)) = orphan_actions ms n r

  meant-listed : (n : ℕ) (m : Meant) → flat_map instance_actions (name_instances ms resources variables names shapes resolved_names n m) ≡ meant_actions n m
  meant-listed n (a_local e) = refl
  meant-listed n (a_block block) = by_test (all_stand (seen_by resolved_names (directly_before names n)))
    where
      by_test : (b : Bool)
          → flat_map instance_actions (cond b (block_instances ms resources n block (environment variables names resolved_names) (shapes n)) [])
          ≡ cond b (block_actions ms resources n block (environment variables names resolved_names) (shapes n)) []
      by_test true =
          members-listed (of_at ms n block.addr) (member_outcome (schema_in block.addr.type_name ms) block (environment variables names resolved_names)) 0 (block_members (shapes n) block resources)
      by_test false = refl

  place-listed : (n : ℕ) (o : Option ResourceRefView) → flat_map instance_actions (instances_at ms resources variables names shapes resolved_names n o) ≡ place_actions n o
  place-listed n None = refl
  place-listed n (Some (a_name name)) = meant-listed n name.meant
  place-listed n (Some (an_orphan r)) = members-listed (of_at ms n r.addr) (orphan_outcome (schema_in r.addr.type_name ms)) 0 (members [] r.records)

  -- the actions of all instances, place by place
  pub listed-actions : (order : List ℕ)
      → flat_map instance_actions (instances ms resources variables names shapes resolved_names order) ≡ flat_map (λ n. place_actions n (slice_get (numbered names resources) n)) order
  listed-actions order =
      let along : flat_map (λ n. flat_map instance_actions (instances_at ms resources variables names shapes resolved_names n (slice_get (numbered names resources) n))) order
      ≡ flat_map (λ n. place_actions n (slice_get (numbered names resources) n)) order =
      (λ i. flat_map (λ n. place-listed n (slice_get (numbered names resources) n) i) order) in
      flat_flat instance_actions (λ n. instances_at ms resources variables names shapes resolved_names n (slice_get (numbered names resources) n)) order ∙ along

-- ---- what is planned, as one value

-- actions and refusals, with the resources in the order of these places
abbrev pub planned_in : List Meaning → List ResourceView → Entries → List NameView → expr.Entries → (ℕ → InstanceKeysView) → List ℕ → (ℕ → ResolvedView) → PlannedView
planned_in ms resources variables names outputs shapes places resolved_names =
    let all = instances ms resources variables names shapes resolved_names places in
    record { actions = flat_map instance_actions all; refusals = map instance_told (flat_map instance_refusals all) ++ output_refusals variables names resolved_names outputs }

-- that is what is planned
pub planned-there : (ms : List Meaning) (resources : List ResourceView) (variables : Entries) (names : List NameView) (outputs : expr.Entries) (shapes : ℕ → InstanceKeysView) (planned : PlannedView)
    (is : IsPlanned ms resources variables names outputs shapes planned) → planned ≡ planned_in ms resources variables names outputs shapes is.places is.resolved_names
planned-there ms resources variables names outputs shapes planned is = (λ i. record { actions = is.actions i; refusals = is.refusals i })
