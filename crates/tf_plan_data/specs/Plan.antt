-- A plan from any prior state, as plain data.
use Rattle.std.specs.Prelude.{ℕ, Bool, false, List, map, slice_index_or}
use Rattle.tf_plan_data.specs.Action.{ActionView, action_of}
use Rattle.tf_config_data.specs.Config.{ConfigView, config_of}
use Rattle.tf_config_data.specs.Names.{NameView, names_of}
use Rattle.tf_expand_keys.specs.InstanceKeys.{InstanceKeysView}
use Rattle.tf_expand_keys.specs.Views.{shapes_of}
use Rattle.tf_graph.specs.Digraph.{Digraph}
use Rattle.tf_config_names.specs.Needs.{needs_in}
use Rattle.tf_state_data.specs.State.{StateView, state_of}
use Rattle.tf_value_data.specs.Tree.{Entries, entries_view}
use Rattle.tf_plan_data.specs.declared.plan.Plan.{Plan}

-- A plan: the state that it starts from, the configuration, the values of its variables, which of its names needs
-- which, the instance keys of each resource, which resources of configuration and state together are late, by their
-- numbers, the actions in address order, and their order.
pub record PlanView : Type 0 where
  pub prior : StateView
  pub config : ConfigView
  pub variables : Entries
  pub needs : ℕ → ℕ → Bool
  pub shapes : ℕ → InstanceKeysView
  pub late : ℕ → Bool
  pub actions : List ActionView
  pub order : Digraph

abbrev pub plan_of : Plan → PlanView
plan_of p =
    record {
      prior = state_of p.prior;
      config = config_of p.config;
      variables = entries_view p.variables.entries;
      needs = needs_in p.dependence;
      shapes = shapes_of p.shapes.items;
      late = λ n. slice_index_or p.late.items n false;
      actions = map action_of p.actions.items;
      order = p.order;
    }

-- the names of a plan's configuration, whose places number its resources
abbrev pub plan_names : PlanView → List NameView
plan_names plan = names_of plan.config
