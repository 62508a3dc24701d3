-- When two requests are equal.
use Rattle.std.specs.Prelude.{Bool, true, false, ◌&&◌, Option, Some, None}
use Rattle.std.specs.Str.{bytes_eq}
use Rattle.tf_provider_protocol.specs.Meaning.{Asked}
use Rattle.tf_provider_protocol.specs.declared.request.Op.{Op}
use Rattle.tf_provider_protocol.specs.declared.request.Op.TheVariants.{Create, Update, Destroy}
use Rattle.tf_value_data.specs.Tree.{same}

abbrev pub is_same_op : Op → Op → Bool
is_same_op Create Create = true
is_same_op Update Update = true
is_same_op Destroy Destroy = true
is_same_op _ _ = false

-- both are present and equal, or both are absent
abbrev pub is_same_option : {A : Type 0} → (A → A → Bool) → Option A → Option A → Bool
is_same_option test (Some a) (Some b) = test a b
is_same_option test None None = true
is_same_option test _ _ = false

-- two requests have the same operation on the same object, with the same prior and requested object
abbrev pub is_same : Asked → Asked → Bool
is_same q r =
    is_same_op q.op r.op
    && (bytes_eq q.address r.address
    && (bytes_eq q.type_name r.type_name
    && (is_same_option bytes_eq q.deposed r.deposed
    && (is_same_option same q.prior r.prior && is_same_option same q.object r.object))))
