-- Names in `ignore_changes` that no attribute has, together with the faults of arguments.
use Rattle.std.specs.Prelude.{ℕ, if◌then◌else◌, List, [], ◌∷◌, is_some, Option, Some, None, Result, Ok, Err}
use Rattle.tf_plan_object.specs.Instance.{InstanceFaultView, for_each_fault, argument_fault}
use Rattle.tf_plan_object.specs.Planned.{NamedFaultView}
use Rattle.tf_plan_object.specs.declared.argument.ArgumentFault.TheVariants.{BadArgument}
use Rattle.tf_provider_protocol.specs.Schema.{SchemaView, attribute_named, is_below}
use Rattle.tf_value_data.specs.Tree.{Tree}
use Rattle.tf_plan_decision.specs.Names.{first_name}

-- the names among these that no attribute has
abbrev pub unknown_names : SchemaView → List (List ℕ) → List (List ℕ)
unknown_names schema [] = []
unknown_names schema (name ∷ names) = if is_some (attribute_named name schema) then unknown_names schema names else name ∷ unknown_names schema names

-- A name in `ignore_changes` has to be that of an attribute. The first one in byte order that isn't is the fault.
abbrev pub ignored_fault : SchemaView → List (List ℕ) → Option (List ℕ)
ignored_fault schema ignored = first_name (unknown_names schema ignored)

-- of two faults, the one whose name is first in byte order
abbrev pub sooner_fault : NamedFaultView → NamedFaultView → NamedFaultView
sooner_fault old new = if is_below new.0 old.0 then new else old

-- What is planned for an instance. A name in `ignore_changes` that no attribute has is as bad as an argument of that
-- name: of all names with a fault the first in byte order is reported. A fault of `for_each` comes before them.
abbrev pub with_ignored_changes : Option (List ℕ) → Result Tree InstanceFaultView → Result Tree InstanceFaultView
with_ignored_changes None planned = planned
with_ignored_changes (Some name) (Ok t) = Err (argument_fault (name, BadArgument))
with_ignored_changes (Some name) (Err (for_each_fault why)) = Err (for_each_fault why)
with_ignored_changes (Some name) (Err (argument_fault found)) = Err (argument_fault (sooner_fault found (name, BadArgument)))
