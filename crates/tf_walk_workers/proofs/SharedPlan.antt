-- What workers read may be shared by threads: the plan, the names of its configuration, and the cells.
use denote.Param.Send.{IsSend, IsSync, struct_sync, recorded_sync, sendable}
use denote.RattleType.{RattleType}
use denote.Ref.{NamedLft}
use denote.Enum.Enum.{Enum}
use denote.Enum.Declared as choice
use denote.Struct.Struct.{Struct}
use denote.Struct.Declared.{shape}
use Rattle.std.proofs.Crossing.{crosses}
use Rattle.std.proofs.MapsCrossing as maps
use Rattle.tf_plan_data.specs.contracts.action.Action as action
use Rattle.tf_plan_data.specs.contracts.step.Step as step
use Rattle.tf_config_address.specs.contracts.addr.ResourceAddr as addr
use Rattle.tf_config_address.specs.contracts.object_id.InstanceKey as key
use Rattle.tf_walk_workers.proofs.SharedCells.{cells_sync}
use Rattle.tf_walk_workers.specs.declared.walk_brand.WalkBrand.{Ghosts}
use Rattle.tf_config_data.specs.contracts.config.Block as block
use Rattle.tf_config_data.specs.contracts.config.Config as config
use Rattle.tf_config_data.specs.contracts.variable.Variable as variable
use Rattle.tf_config_names.specs.contracts.dependence.Dependence as dependence
use Rattle.tf_config_names.specs.contracts.declaration.Declaration as named
use Rattle.tf_config_names.specs.contracts.places.Places as places
use Rattle.tf_config_names.specs.contracts.table.Declarations as names
use Rattle.tf_plan_data.specs.contracts.plan.Plan as plan
use Rattle.tf_plan_order.specs.contracts.order.Order as order
use Rattle.tf_walk_workers.specs.contracts.shared.BorrowedInput as walk_inputs
use Rattle.tf_state_data.specs.contracts.state.State as state
use Rattle.tf_expr_syntax.proofs.expr.Expr.TheLaws.TheKnot as expr
use Rattle.tf_expr_syntax.proofs.tree.Term.TheLaws.TheKnot as term
use Rattle.tf_expr_syntax.specs.contracts.expr.Expr as expression
use Rattle.tf_value_data.proofs.value.Value.TheLaws.TheKnot as value

addr_sync : IsSync addr.the_row
addr_sync = search (maps.crosses, crosses, sendable) depth 60 fits 20000

addr_part : IsSync (Struct (shape addr.the_type))
addr_part = search (maps.crosses, crosses, sendable) depth 60 fits 20000

key_part : IsSync (Enum (choice.shape key.the_type))
key_part = search (maps.crosses, crosses, sendable) depth 60 fits 20000

step_part : IsSync (Enum (choice.shape step.the_type))
step_part = search (value.crosses, maps.crosses, crosses, sendable) depth 60 fits 20000

action_sync : IsSync action.the_row
action_sync = search (step_part, addr_part, key_part, sendable) depth 60 fits 20000

block_sync : IsSync block.the_row
block_sync = search (expr.crosses, term.crosses, maps.crosses, crosses, sendable) depth 60 fits 20000

variable_sync : IsSync variable.the_row
variable_sync = search (value.crosses, maps.crosses, crosses, sendable) depth 60 fits 20000

config_part : IsSync (Struct (shape config.the_type))
config_part = search (block_sync, variable_sync, expr.crosses, term.crosses, maps.crosses, crosses, sendable) depth 60 fits 20000

state_part : IsSync (Struct (shape state.the_type))
state_part = search (value.crosses, maps.crosses, crosses, sendable) depth 60 fits 20000

places_sync : IsSync places.the_row
places_sync = search (maps.crosses, crosses, sendable) depth 60 fits 20000

dependence_part : IsSync (Struct (shape dependence.the_type))
dependence_part = search (places_sync, crosses, sendable) depth 60 fits 20000

order_sync : IsSync order.the_row
order_sync = search (crosses, sendable) depth 60 fits 20000

plan_sync : IsSync plan.the_row
plan_sync = search (state_part, config_part, dependence_part, order_sync, action_sync, value.crosses, maps.crosses, crosses, sendable) depth 60 fits 20000

expression_sync : IsSync expression.the_row
expression_sync = search (expr.crosses, term.crosses, maps.crosses, crosses, sendable) depth 60 fits 20000

named_sync : (κ : NamedLft) → IsSync (named.the_row κ)
named_sync κ = search (addr_sync, block_sync, expression_sync, maps.String-sync, sendable) depth 60 fits 20000

names_sync : (κ : NamedLft) → IsSync (names.the_row κ)
names_sync κ = search (named_sync, places_sync, maps.crosses, crosses, sendable) depth 60 fits 20000

pub grounds_sync : (κ : NamedLft) (T : RattleType) (g : Ghosts T.Denot) → IsSend T → IsSync T → IsSync (walk_inputs.the_row κ T g)
grounds_sync κ T g s y =
    recorded_sync _ _ _ (walk_inputs.the_type κ T g).to_one (struct_sync (shape (walk_inputs.the_type κ T g)) (search (plan_sync, sendable), (search (names_sync, sendable), (search (cells_sync, sendable), tt))))
