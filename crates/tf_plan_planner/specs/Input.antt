-- The input of a plan as plain data.
use Rattle.std.specs.Prelude.{◌≡◌, List}
use Rattle.tf_config_data.specs.Names.{NameView}
use Rattle.tf_config_names.specs.Table.{names_in}
use Rattle.tf_plan_planner.specs.declared.deciding.PlanInput.{PlanInput}
use Rattle.tf_plan_order.specs.ResourceIndex.{numbered}
use Rattle.tf_plan_order.specs.Table.{numbered_in, resources_in}
use Rattle.tf_state_data.specs.Resource.{ResourceView}
use Rattle.tf_state_data.specs.State.{state_of}
use Rattle.tf_expr_syntax.specs.ExprTree as expr
use Rattle.tf_value_data.specs.Tree.{Entries, entries_view}

-- the names of the configuration
abbrev pub names_given : PlanInput → List NameView
names_given g = names_in g.declared.now.names.now

-- the values of its variables
abbrev pub variables_given : PlanInput → Entries
variables_given g = entries_view g.declared.now.variables.now.entries

-- its outputs
abbrev pub outputs_given : PlanInput → expr.Entries
outputs_given g = expr.entries_view g.outputs.now.entries

-- the resources of the prior state
abbrev pub resources_given : PlanInput → List ResourceView
resources_given g = (state_of g.prior.now).resources

-- The parts belong together: the names and the resources of the prior state are numbered together.
pub record IsGiven (g : PlanInput) : Type 0 where
  pub numbered : numbered_in g.resource_index.now ≡ numbered (names_given g) (resources_given g)
  pub resources : resources_in g.resource_index.now ≡ resources_given g
