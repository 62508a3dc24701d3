-- What the arguments of one instance see.
use Rattle.std.specs.Prelude.{ℕ, pos, Bool, true, false, ◌&&◌, if◌then◌else◌, List, [], ◌∷◌, codes, Result, Ok}
use Rattle.std.specs.Str.{bytes_eq}
use Rattle.tf_config_address.specs.ObjectId as keys
use Rattle.tf_config_address.specs.ObjectId.{InstanceKeyView}
use Rattle.tf_config_data.specs.Config.{RepetitionView, single, count, for_each}
use Rattle.tf_value_data.specs.Tree.{Tree, text, set, part_at}
use Rattle.tf_expr_operators.specs.Answer.{Answer, present_value, whole_value}
use Rattle.tf_expr_syntax.specs.declared.fault.EvalFault.{EvalFault}
use Rattle.tf_expr_eval.specs.Constants.{ConstantView}
use Rattle.tf_expr_eval.specs.Environment.{Environment}
use Rattle.tf_expr_eval.specs.ExprMeaning.{meaning}
use Rattle.tf_expr_eval.specs.Meaning.{and_then}

-- an environment in which constants hide the other references of the same name
abbrev pub bound : List ConstantView → Environment → Environment
bound [] env first name = env first name
bound (c ∷ cs) env first name = if bytes_eq c.first first && bytes_eq c.name name then Ok c.value else bound cs env first name

abbrev pub count_index : Tree → ConstantView
count_index t = record { first = codes "count"; name = codes "index"; value = t }

abbrev pub each_key : List ℕ → ConstantView
each_key key = record { first = codes "each"; name = codes "key"; value = text key }

abbrev pub each_value : Tree → ConstantView
each_value t = record { first = codes "each"; name = codes "value"; value = t }

abbrev pub is_set : Tree → Bool
is_set (set texts) = true
is_set _ = false

-- What the value of `for_each` has under a key: the value there in a map, and for a set the key itself, which is one of
-- its texts.
abbrev pub value_under : List ℕ → Tree → Answer
value_under key t = if is_set t then Ok (text key) else present_value (part_at key t)

-- The constants of an instance: `count.index` by its number, or `each.key` and `each.value` by its name. `for_each` is
-- evaluated for each instance, and its fault is the instance's.
abbrev pub instance_constants : RepetitionView → InstanceKeyView → Environment → Result (List ConstantView) EvalFault
instance_constants single key env = Ok []
instance_constants (count e) (keys.number n) env = and_then (whole_value (pos n)) (λ t. Ok (count_index t ∷ []))
instance_constants (for_each e) (keys.name key) env = and_then (meaning env e) (λ all. and_then (value_under key all) (λ t. Ok (each_key key ∷ each_value t ∷ [])))
instance_constants _ _ env = Ok []

-- the values of the references in an instance's arguments, or the fault of `for_each`
abbrev pub instance_environment : RepetitionView → InstanceKeyView → Environment → Result Environment EvalFault
instance_environment repetition key env = and_then (instance_constants repetition key env) (λ constants. Ok (bound constants env))
