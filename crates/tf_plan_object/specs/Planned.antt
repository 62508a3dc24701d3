-- What is planned for arguments: an object, or the first fault in them.
use Rattle.std.specs.Prelude.{ℕ, if◌then◌else◌, List, [], ◌∷◌, ◌++◌, fold, is_some, Option, Some, None, Result, Ok, Err}
use Rattle.tf_expr_syntax.specs.ExprTree as expr
use Rattle.tf_expr_eval.specs.Environment.{Environment}
use Rattle.tf_value_data.specs.Tree.{Tree, Entries, no_entries, entry, map}
use Rattle.tf_provider_protocol.specs.Schema.{AttributeView, SchemaView, attribute_named, is_below}
use Rattle.tf_plan_object.specs.Argument.{attribute_value}
use Rattle.tf_plan_object.specs.declared.argument.ArgumentFault.{ArgumentFault}
use Rattle.tf_plan_object.specs.declared.argument.ArgumentFault.TheVariants.{BadArgument}

-- a fault of an argument or attribute, with its name
abbrev pub NamedFaultView : Type 0
NamedFaultView = List ℕ × ArgumentFault

-- an attribute's fault, if its planned value has one
abbrev pub fault_at : List ℕ → Result Tree ArgumentFault → List NamedFaultView
fault_at name (Ok t) = []
fault_at name (Err fault) = (name, fault) ∷ []

-- the faults of a schema's attributes
abbrev pub attribute_faults : List AttributeView → Environment → expr.Entries → List NamedFaultView
attribute_faults [] env arguments = []
attribute_faults (a ∷ others) env arguments = fault_at a.name (attribute_value env a (expr.get a.name arguments)) ++ attribute_faults others env arguments

-- An argument that names no attribute is a bad one, whatever its value. It isn't evaluated.
abbrev pub stray_faults : SchemaView → expr.Entries → List NamedFaultView
stray_faults schema expr.no_entries = []
stray_faults schema (expr.entry name value arguments) =
    if is_some (attribute_named name schema) then stray_faults schema arguments else (name, BadArgument) ∷ stray_faults schema arguments

-- of two faults, the one whose name is first in byte order
abbrev pub sooner : Option NamedFaultView → NamedFaultView → Option NamedFaultView
sooner None new = Some new
sooner (Some old) new = if is_below new.0 old.0 then Some new else Some old

-- of all faults, the one whose name is first in byte order
abbrev pub first_of_faults : List NamedFaultView → Option NamedFaultView
first_of_faults faults = fold sooner None faults

-- the first fault of arguments, by the name of the attribute
abbrev pub first_fault : SchemaView → Environment → expr.Entries → Option NamedFaultView
first_fault schema env arguments = first_of_faults (attribute_faults schema.attributes env arguments ++ stray_faults schema arguments)

-- the entries with an attribute's value in front, if it has one
abbrev pub with_value : List ℕ → Result Tree ArgumentFault → Entries → Entries
with_value name (Ok t) es = entry name t es
with_value name (Err fault) es = es

-- each attribute that has a planned value, with that value
abbrev pub planned_entries : List AttributeView → Environment → expr.Entries → Entries
planned_entries [] env arguments = no_entries
planned_entries (a ∷ others) env arguments = with_value a.name (attribute_value env a (expr.get a.name arguments)) (planned_entries others env arguments)

-- a value, unless there is a fault
abbrev pub unless_fault : Option NamedFaultView → Tree → Result Tree NamedFaultView
unless_fault None t = Ok t
unless_fault (Some fault) t = Err fault

-- The object of arguments by a schema in an environment: the planned value of each attribute. Or the first fault in the
-- arguments.
abbrev pub planned_object : SchemaView → Environment → expr.Entries → Result Tree NamedFaultView
planned_object schema env arguments = unless_fault (first_fault schema env arguments) (map (planned_entries schema.attributes env arguments))
