-- Shapes and resolved names as plain data.
use Rattle.std.specs.Prelude.{ℕ, List, map, slice_index_or, Some, None, Result, Ok, Err, string_bytes}
use Rattle.tf_expr_operators.specs.Bounded.{bounded_tree}
use Rattle.tf_expand_keys.specs.InstanceKeys.{InstanceKeysView, one, many, named}
use Rattle.tf_expand_keys.specs.Resolved.{ResolvedView}
use Rattle.tf_expand_keys.specs.declared.repetition.RepetitionFault.{RepetitionFault}
use Rattle.tf_expand_keys.specs.declared.shape.InstanceKeys.{InstanceKeys}
use Rattle.tf_expand_keys.specs.declared.shape.InstanceKeys.TheVariants.{One, Many, Named}
use Rattle.tf_expand_keys.specs.declared.resolved.Resolved.{Resolved}
use Rattle.tf_expand_keys.specs.declared.resolved.Resolved.TheVariants.{Nothing, Value, Fault}

abbrev pub shape_of : InstanceKeys → InstanceKeysView
shape_of One = one
shape_of (Many n) = many n
shape_of (Named names) = named (map string_bytes names.items)

abbrev pub resolved_of : Resolved → ResolvedView
resolved_of Nothing = None
resolved_of (Value b) = Some (Ok (bounded_tree b))
resolved_of (Fault why) = Some (Err why)

-- what each place of a list resolves to; past its end nothing does
abbrev pub resolved_names_of : List Resolved → ℕ → ResolvedView
resolved_names_of resolved_names n = slice_index_or (map resolved_of resolved_names) n None

-- the shape at each place of a list; past its end it is one object
abbrev pub shapes_of : List InstanceKeys → ℕ → InstanceKeysView
shapes_of shapes n = slice_index_or (map shape_of shapes) n one

-- the instances that are computed, or why they can't be
abbrev pub worked_out : Result InstanceKeys RepetitionFault → Result InstanceKeysView RepetitionFault
worked_out (Ok shape) = Ok (shape_of shape)
worked_out (Err why) = Err why
