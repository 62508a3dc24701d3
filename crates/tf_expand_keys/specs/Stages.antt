-- The stages of the engine: what resources resolve to in the expansion, in the plan and in the apply.
use Rattle.std.specs.Prelude.{ℕ, Option, Some, None, Result, Ok, Err}
use Rattle.tf_config_address.specs.ObjectId.{InstanceKeyView}
use Rattle.tf_config_data.specs.Config.{BlockView}
use Rattle.tf_value_data.specs.Tree.{Tree, unknown}
use Rattle.tf_expr_eval.specs.Environment.{Environment}
use Rattle.tf_expand_keys.specs.Repetition.{instances}
use Rattle.tf_expand_keys.specs.InstanceKeys.{InstanceKeysView}
use Rattle.tf_expand_keys.specs.Resolved.{ResourceValuesView}

-- the value of a result, or `None` for an error
abbrev pub fine : {A E : Type 0} → Result A E → Option A
fine (Ok a) = Some a
fine (Err e) = None

-- In the expansion the instances are computed, and no object is known.
abbrev pub expansion : ResourceValuesView
expansion = record { shape = λ n block env. fine (instances block.repetition env); object = λ n block env key. Some unknown }

-- In the plan a resource has the instances that the expansion gave it, and each object is planned.
abbrev pub planning : (ℕ → InstanceKeysView) → (ℕ → BlockView → Environment → InstanceKeyView → Option Tree) → ResourceValuesView
planning shapes planned = record { shape = λ n block env. Some (shapes n); object = planned }

-- In the apply a resource has these instances too, with the objects that the providers answered.
abbrev pub applying : (ℕ → InstanceKeysView) → (ℕ → InstanceKeyView → Tree) → ResourceValuesView
applying shapes objects = record { shape = λ n block env. Some (shapes n); object = λ n block env key. Some (objects n key) }
