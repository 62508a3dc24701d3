-- What may be stored of an object, and what a create may request.
use Rattle.std.specs.Prelude.{Bool, true, false, Option, Some}
use Rattle.tf_plan_object.specs.Bounded.{has_planned_attributes}
use Rattle.tf_provider_protocol.specs.declared.request.Op.{Op}
use Rattle.tf_provider_protocol.specs.declared.request.Op.TheVariants.{Create, Update, Destroy}
use Rattle.tf_value_data.specs.Stored.{each_may_be_stored}
use Rattle.tf_value_data.specs.Tree.{Tree, map}

-- an object whose attributes may all be stored
abbrev pub has_stored_attributes : Tree → Bool
has_stored_attributes (map es) = each_may_be_stored es
has_stored_attributes _ = false

-- A create requests an object whose attributes may be planned, so that each may be stored with null for its unknown
-- parts. For an update or a destroy there is no condition.
abbrev pub asks_planned : Op → Option Tree → Bool
asks_planned Create (Some t) = has_planned_attributes t
asks_planned Create _ = false
asks_planned Update asked = true
asks_planned Destroy asked = true
