-- The instances of a configuration and a prior state together, each with its outcome.
use Rattle.std.specs.Prelude.{ℕ, if◌then◌else◌, List, [], Option, Some, None, slice_get}
use Rattle.std.specs.List.{flat_map}
use Rattle.tf_config_data.specs.Config.{BlockView}
use Rattle.tf_config_data.specs.Names.{NameView, Meant, a_local, a_block, directly_before}
use Rattle.tf_plan_decision.specs.Deciding.{InstanceOutcomeView, instance_outcomes, of_at}
use Rattle.tf_plan_decision.specs.Outcome.{member_outcome, orphan_outcome}
use Rattle.tf_plan_decision.specs.Stage.{block_members}
use Rattle.tf_expand_keys.specs.InstanceKeys.{InstanceKeysView}
use Rattle.tf_expand_keys.specs.Resolved.{ResolvedView, all_stand, environment}
use Rattle.tf_expr_eval.specs.Environment.{Environment}
use Rattle.tf_graph.specs.Solutions.{seen_by}
use Rattle.tf_provider_protocol.specs.Meaning.{Meaning, schema_in}
use Rattle.tf_plan_order.specs.Members.{members}
use Rattle.tf_plan_order.specs.ResourceIndex.{ResourceRefView, a_name, an_orphan, numbered}
use Rattle.tf_state_data.specs.Resource.{ResourceView}
use Rattle.tf_value_data.specs.Tree.{Entries}

-- the instances of a configured resource, in the order of their keys
abbrev pub block_instances : List Meaning → List ResourceView → ℕ → BlockView → Environment → InstanceKeysView → List InstanceOutcomeView
block_instances ms resources n block env shape =
    instance_outcomes (of_at ms n block.addr) (member_outcome (schema_in block.addr.type_name ms) block env) (block_members shape block resources)

-- the instances of an orphan, in the order of their keys
abbrev pub orphan_instances : List Meaning → ℕ → ResourceView → List InstanceOutcomeView
orphan_instances ms n r = instance_outcomes (of_at ms n r.addr) (orphan_outcome (schema_in r.addr.type_name ms)) (members [] r.records)

module _ (ms : List Meaning) (resources : List ResourceView) (variables : Entries) (names : List NameView) (shapes : ℕ → InstanceKeysView) (resolved_names : ℕ → ResolvedView) where
  -- The instances of a block are decided only if nothing that it needs by the configuration was refused. A local has no
  -- instances.
  abbrev pub name_instances : ℕ → Meant → List InstanceOutcomeView
  name_instances n (a_local e) = []
  name_instances n (a_block block) =
      if all_stand (seen_by resolved_names (directly_before names n)) then block_instances ms resources n block (environment variables names resolved_names) (shapes n) else []

  -- the instances of what has a number: of a name, or of an orphan, which needs nothing by the configuration
  abbrev pub instances_at : ℕ → Option ResourceRefView → List InstanceOutcomeView
  instances_at n None = []
  instances_at n (Some (a_name name)) = name_instances n name.meant
  instances_at n (Some (an_orphan r)) = orphan_instances ms n r

  -- the instances of the resources with these numbers, one resource after another
  abbrev pub instances : List ℕ → List InstanceOutcomeView
  instances places = flat_map (λ n. instances_at n (slice_get (numbered names resources) n)) places
