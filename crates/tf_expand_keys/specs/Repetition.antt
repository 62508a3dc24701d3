-- How many instances a resource has, and under which keys.
use Rattle.std.specs.Prelude.{ℕ, pos, List, Option, Some, None, Result, Ok, Err}
use Rattle.tf_config_data.specs.Config.{RepetitionView, single, count, for_each}
use Rattle.tf_value_data.specs.Tree.{Tree, whole, map, set, unknown, keys_of}
use Rattle.tf_expr_operators.specs.Answer.{Answer}
use Rattle.tf_expr_eval.specs.Environment.{Environment}
use Rattle.tf_expr_eval.specs.ExprMeaning.{meaning}
use Rattle.tf_expand_keys.specs.InstanceKeys.{InstanceKeysView, one, many, named}
use Rattle.tf_expand_keys.specs.declared.repetition.RepetitionFault.{RepetitionFault}
use Rattle.tf_expand_keys.specs.declared.repetition.RepetitionFault.TheVariants.{BadCount, BadForEach, UnknownInstances, Evaluation}

-- the keys that `for_each` gives: those of a map, or the texts of a set; `None` for any other value
abbrev pub names_in : Tree → Option (List (List ℕ))
names_in (map es) = Some (keys_of es)
names_in (set texts) = Some texts
names_in _ = None

abbrev pub or_bad_for_each : Option (List (List ℕ)) → Result InstanceKeysView RepetitionFault
or_bad_for_each None = Err BadForEach
or_bad_for_each (Some names) = Ok (named names)

-- `count` has to be a whole number of 0 or more
abbrev pub counted : Answer → Result InstanceKeysView RepetitionFault
counted (Err why) = Err (Evaluation why)
counted (Ok unknown) = Err UnknownInstances
counted (Ok (whole (pos n))) = Ok (many n)
counted (Ok _) = Err BadCount

-- `for_each` has to be a map or a set of texts
abbrev pub keyed : Answer → Result InstanceKeysView RepetitionFault
keyed (Err why) = Err (Evaluation why)
keyed (Ok unknown) = Err UnknownInstances
keyed (Ok t) = or_bad_for_each (names_in t)

-- One instance without a key. With `count`, as many as it says. With `for_each`, one for each key.
abbrev pub instances : RepetitionView → Environment → Result InstanceKeysView RepetitionFault
instances single env = Ok one
instances (count e) env = counted (meaning env e)
instances (for_each e) env = keyed (meaning env e)
