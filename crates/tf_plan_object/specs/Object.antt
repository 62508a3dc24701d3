-- Planned objects and their faults as plain data.
use Rattle.std.specs.Prelude.{Result, Ok, Err, string_bytes}
use Rattle.std.specs.declared.alloc.Global.{Global}
use Rattle.std.specs.declared.string.String.{String}
use Rattle.tf_value_data.specs.Tree.{Tree, tree_of}
use Rattle.tf_value_data.specs.declared.value.Value.{Value}
use Rattle.tf_plan_object.specs.Planned.{NamedFaultView}
use Rattle.tf_plan_object.specs.declared.argument.ArgumentFault.{ArgumentFault}

abbrev pub named_fault_of : String Global × ArgumentFault → NamedFaultView
named_fault_of named = (string_bytes named.0, named.1)

-- a planned object, or its fault
abbrev pub planned_of : Result Value (String Global × ArgumentFault) → Result Tree NamedFaultView
planned_of (Ok v) = Ok (tree_of v)
planned_of (Err named) = Err (named_fault_of named)
