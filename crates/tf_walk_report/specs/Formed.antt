-- Whether an object is well formed, part by part.
use Rattle.std.specs.Prelude.{Bool, false}
use Rattle.std.specs.Option.{option_map_or}
use Rattle.tf_provider_protocol.specs.Schema.{AttributeView}
use Rattle.tf_provider_protocol.specs.Verdict.{is_allowed}
use Rattle.tf_value_data.specs.Tree.{Tree, part_at}

-- an object has a value for the attribute, and it is allowed
abbrev pub allowed_in : Tree → AttributeView → Bool
allowed_in t a = option_map_or (is_allowed a) (part_at a.name t) false
