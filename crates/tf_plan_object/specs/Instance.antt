-- The object of one instance of a resource.
use Rattle.std.specs.Prelude.{Result, Ok, Err, string_bytes}
use Rattle.tf_config_address.specs.ObjectId.{InstanceKeyView}
use Rattle.tf_config_data.specs.Config.{BlockView}
use Rattle.tf_expr_syntax.specs.declared.fault.EvalFault.{EvalFault}
use Rattle.tf_provider_protocol.specs.Schema.{SchemaView}
use Rattle.tf_expr_syntax.specs.ExprTree as expr
use Rattle.tf_value_data.specs.Tree.{Tree, tree_of}
use Rattle.tf_value_data.specs.declared.value.Value.{Value}
use Rattle.tf_expr_eval.specs.Environment.{Environment}
use Rattle.tf_expand_keys.specs.Instance.{instance_environment}
use Rattle.tf_plan_object.specs.Planned.{NamedFaultView, planned_object}
use Rattle.tf_plan_object.specs.declared.instance.InstanceFault.{InstanceFault}
use Rattle.tf_plan_object.specs.declared.instance.InstanceFault.TheVariants.{ForEach, Argument}

-- The fault of an instance: `for_each` gives it no value, or an argument is bad.
pub data InstanceFaultView : Type 0 where
  for_each_fault : EvalFault → InstanceFaultView
  argument_fault : NamedFaultView → InstanceFaultView

abbrev pub instance_fault_of : InstanceFault → InstanceFaultView
instance_fault_of (ForEach why) = for_each_fault why
instance_fault_of (Argument name fault) = argument_fault (string_bytes name, fault)

-- an instance's object, or its fault
abbrev pub instance_of : Result Value InstanceFault → Result Tree InstanceFaultView
instance_of (Ok v) = Ok (tree_of v)
instance_of (Err why) = Err (instance_fault_of why)

-- an object, or the fault of an argument of the instance
abbrev pub or_argument_fault : Result Tree NamedFaultView → Result Tree InstanceFaultView
or_argument_fault (Ok t) = Ok t
or_argument_fault (Err named) = Err (argument_fault named)

-- the object of arguments in an environment, or the fault of that environment
abbrev pub object_in : SchemaView → expr.Entries → Result Environment EvalFault → Result Tree InstanceFaultView
object_in schema arguments (Err why) = Err (for_each_fault why)
object_in schema arguments (Ok env) = or_argument_fault (planned_object schema env arguments)

-- The object of an instance of a block: that of its arguments by the schema, in which `count.index`, `each.key` and
-- `each.value` are those of the instance. `for_each` is evaluated again for each instance, and its fault comes before
-- all faults of arguments, even if nothing names `each.value`.
abbrev pub instance_object : SchemaView → BlockView → InstanceKeyView → Environment → Result Tree InstanceFaultView
instance_object schema block key env = object_in schema block.arguments (instance_environment block.repetition key env)
