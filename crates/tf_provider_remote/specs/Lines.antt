-- The line of a request to a provider that is another program.
use Rattle.std.specs.Prelude.{◌≡◌, ◌++◌, ℕ, List, [], ◌∷◌, codes, Option, Some, None, All}
use Rattle.serde_json.specs.Data as json
use Rattle.tf_provider_log.specs.Form.{op_word, text_form}
use Rattle.tf_provider_protocol.specs.Meaning.{Asked}
use Rattle.tf_value_data.specs.Nulls.{with_nulls}
use Rattle.tf_value_data.specs.Tree.{Tree}
use Rattle.tf_value_json.specs.Json.{value_data}

-- the form of an object, with null for what isn't known; null if there is none
abbrev pub object_form : Option Tree → json.Data
object_form None = json.null
object_form (Some t) = value_data (with_nulls t)

-- the form of a request with a number: each of its parts at a key
abbrev pub remote_form : ℕ → Asked → json.Data
remote_form id r =
    json.object
    (json.member (codes "address") (json.string r.address)
    (json.member (codes "deposed") (text_form r.deposed)
    (json.member (codes "id") (json.number (json.unsigned id))
    (json.member (codes "object") (object_form r.object)
    (json.member (codes "op") (json.string (op_word r.op))
    (json.member (codes "prior") (object_form r.prior)
    (json.member (codes "type") (json.string r.type_name)
    json.no_members)))))))
