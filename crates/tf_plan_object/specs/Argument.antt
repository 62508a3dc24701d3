-- The value that an argument gives the attribute that it names.
use Rattle.std.specs.Prelude.{if◌then◌else◌, codes, Option, Some, None, Result, Ok, Err}
use Rattle.std.specs.Fmt.{signed_decimal}
use Rattle.tf_value_data.specs.Sets.{with_lists}
use Rattle.tf_value_data.specs.Tree.{Tree, null, boolean, whole, text, unknown}
use Rattle.tf_provider_protocol.specs.Schema.{AttributeView}
use Rattle.tf_provider_protocol.specs.declared.schema.Kind.{Kind}
use Rattle.tf_provider_protocol.specs.declared.schema.Kind.TheVariants as kinds
use Rattle.tf_provider_protocol.specs.declared.schema.Mode.{Mode}
use Rattle.tf_provider_protocol.specs.declared.schema.Mode.TheVariants as modes
use Rattle.tf_expr_operators.specs.Answer.{Answer}
use Rattle.tf_expr_eval.specs.Environment.{Environment}
use Rattle.tf_expr_eval.specs.ExprMeaning.{meaning}
use Rattle.tf_expr_syntax.specs.ExprTree as expr
use Rattle.tf_plan_object.specs.declared.argument.ArgumentFault.{ArgumentFault}
use Rattle.tf_plan_object.specs.declared.argument.ArgumentFault.TheVariants.{Evaluation, BadArgument}

-- a value, or an evaluation that fails
abbrev pub evaluated : Answer → Result Tree ArgumentFault
evaluated (Ok t) = Ok t
evaluated (Err why) = Err (Evaluation why)

-- An argument's value is that of its expression, by the values of its references.
abbrev pub argument_value : Environment → expr.Tree → Result Tree ArgumentFault
argument_value env e = evaluated (meaning env e)

-- An attribute takes values of its kind, and a value that isn't known yet. An attribute of kind String also takes whole
-- numbers and truth values, as their texts. One of kind Any takes a set, at any depth, as the list of its texts.
abbrev pub converted : Kind → Tree → Option Tree
converted kinds.Any t = Some (with_lists t)
converted kinds.String unknown = Some unknown
converted kinds.String (text s) = Some (text s)
converted kinds.String (whole z) = Some (text (signed_decimal z))
converted kinds.String (boolean b) = Some (text (if b then codes "true" else codes "false"))
converted kinds.String _ = None
converted kinds.Number unknown = Some unknown
converted kinds.Number (whole z) = Some (whole z)
converted kinds.Number _ = None
converted kinds.Bool unknown = Some unknown
converted kinds.Bool (boolean b) = Some (boolean b)
converted kinds.Bool _ = None

-- The value of an attribute in a create if no argument sets it: null, or unknown if the provider makes it. A required
-- attribute has to be set.
abbrev pub unset_value : Mode → Result Tree ArgumentFault
unset_value modes.Required = Err BadArgument
unset_value modes.Optional = Ok null
unset_value modes.Computed = Ok unknown

abbrev pub or_bad_argument : Option Tree → Result Tree ArgumentFault
or_bad_argument None = Err BadArgument
or_bad_argument (Some t) = Ok t

-- A value that is set is converted to the attribute's kind. A computed attribute can't be set.
abbrev pub set_value : Mode → Kind → Tree → Result Tree ArgumentFault
set_value modes.Computed kind t = Err BadArgument
set_value _ kind t = or_bad_argument (converted kind t)

-- null means that an argument isn't set
abbrev pub given_value : Mode → Kind → Tree → Result Tree ArgumentFault
given_value mode kind null = unset_value mode
given_value mode kind t = set_value mode kind t

abbrev pub result_then : {A B : Type 0} → (A → Result B ArgumentFault) → Result A ArgumentFault → Result B ArgumentFault
result_then f (Ok a) = f a
result_then f (Err e) = Err e

-- an attribute's planned value in a create, from the argument that names it, if there is one
abbrev pub attribute_value : Environment → AttributeView → Option expr.Tree → Result Tree ArgumentFault
attribute_value env a None = unset_value a.mode
attribute_value env a (Some e) = result_then (given_value a.mode a.kind) (argument_value env e)
