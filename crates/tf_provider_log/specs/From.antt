-- What JSON trees say as lines of a log. An object may have other keys than those that are read.
use Rattle.std.specs.Prelude.{ℕ, ℤ, pos, List, codes, Option, Some, None, option_map, Bool, false, if◌then◌else◌, bytes_eq}
use Rattle.std.specs.Ordering.{int_eq}
use Rattle.serde_json.specs.Data as json
use Rattle.serde_json.specs.Find.{get, as_integer}
use Rattle.tf_provider_protocol.specs.Meaning.{Asked, Answer, object, gone, failed}
use Rattle.tf_provider_protocol.specs.declared.request.Op.{Op}
use Rattle.tf_provider_protocol.specs.declared.request.Op.TheVariants as op
use Rattle.tf_value_json.specs.Json.{tree_from}
use Rattle.tf_value_data.specs.Tree.{Tree}
use Rattle.tf_provider_log.specs.LogEntry.{LogEntryView, begun, replied, HeaderView}

-- a string reads as a text
abbrev pub text_from : Option json.Data → Option (List ℕ)
text_from (Some (json.string s)) = Some s
text_from _ = None

-- a string reads as a text, and null as no text
abbrev pub option_text_from : Option json.Data → Option (Option (List ℕ))
option_text_from (Some (json.string s)) = Some (Some s)
option_text_from (Some json.null) = Some None
option_text_from _ = None

-- an array of one item reads as the item's value, and an empty one as no value
abbrev pub option_from : Option json.Data → Option (Option Tree)
option_from (Some (json.array json.no_items)) = Some None
option_from (Some (json.array (json.item d json.no_items))) = Some (Some (tree_from d))
option_from _ = None

-- the operation of a word
abbrev pub op_of_word : List ℕ → Option Op
op_of_word s =
    if bytes_eq s (codes "create") then Some op.Create
    else if bytes_eq s (codes "update") then Some op.Update
    else if bytes_eq s (codes "destroy") then Some op.Destroy
    else None

-- a string reads as the operation of its word
abbrev pub op_from : Option json.Data → Option Op
op_from (Some (json.string s)) = op_of_word s
op_from _ = None

-- the request of its parts, if all of them are read
abbrev pub request_of_parts : Option Op → Option (List ℕ) → Option (List ℕ) → Option (Option (List ℕ)) → Option (Option Tree) → Option (Option Tree) → Option Asked
request_of_parts (Some what) (Some place) (Some name) (Some key) (Some before) (Some wanted) =
    Some record { op = what; address = place; type_name = name; deposed = key; prior = before; object = wanted }
request_of_parts _ _ _ _ _ _ = None

-- the request that a tree says, by the parts at its keys
abbrev pub request_from : json.Data → Option Asked
request_from d =
    request_of_parts (op_from (get (codes "op") d)) (text_from (get (codes "address") d)) (text_from (get (codes "type") d))
    (option_text_from (get (codes "deposed") d)) (option_from (get (codes "prior") d)) (option_from (get (codes "object") d))

-- a failure of its message and of the object that exists
abbrev pub failure_of_parts : Option (List ℕ) → Option (Option Tree) → Option (Option Answer)
failure_of_parts (Some message) (Some left) = Some (Some (failed message left))
failure_of_parts _ _ = None

-- the reply by the values at the keys `failed` and `object`
abbrev pub reply_of_members : Option json.Data → Option json.Data → Option (Option Answer)
reply_of_members None (Some d) = Some (Some (object (tree_from d)))
reply_of_members None None = None
reply_of_members (Some message) d = failure_of_parts (text_from (Some message)) (option_from d)

-- the reply that a tree says
abbrev pub reply_from : json.Data → Option (Option Answer)
reply_from json.null = Some None
reply_from (json.string s) = if bytes_eq s (codes "gone") then Some (Some gone) else None
reply_from (json.object ms) = reply_of_members (get (codes "failed") (json.object ms)) (get (codes "object") (json.object ms))
reply_from _ = None

-- an answered entry of the request and the reply, if both are read
abbrev pub replied_of : Option Asked → Option (Option Answer) → Option LogEntryView
replied_of (Some r) (Some a) = Some (replied r a)
replied_of _ _ = None

-- the entry by the values at the keys `begun`, `answered` and `reply`: a request at the first alone, or one at the
-- second and its reply at the third
abbrev pub entry_of_members : Option json.Data → Option json.Data → Option json.Data → Option LogEntryView
entry_of_members (Some r) None None = option_map begun (request_from r)
entry_of_members None (Some r) (Some a) = replied_of (request_from r) (reply_from a)
entry_of_members _ _ _ = None

-- the entry that a tree says
abbrev pub entry_from : json.Data → Option LogEntryView
entry_from d = entry_of_members (get (codes "begun") d) (get (codes "answered") d) (get (codes "reply") d)

-- a whole number reads as a version
abbrev pub version_from : Option json.Data → Option ℤ
version_from (Some (json.number n)) = as_integer n
version_from _ = None

-- the version in a log's first line, if there is a whole number at its key
abbrev pub version_of : json.Data → Option ℤ
version_of d = version_from (get (codes "version") d)

-- the only known version is 1
abbrev pub is_known : Option ℤ → Bool
is_known (Some z) = int_eq z (pos 1)
is_known None = false

-- the header of its parts, if all of them are read
abbrev pub header_of_parts : Option (List ℕ) → Option (Option (List ℕ)) → Option (Option (List ℕ)) → Option (List ℕ) → Option HeaderView
header_of_parts (Some given) (Some file) (Some before) (Some line) = Some record { config = given; vars = file; state = before; lineage = line }
header_of_parts _ _ _ _ = None

-- the header that a tree of the known version says, by the parts at its keys
abbrev pub header_from : json.Data → Option HeaderView
header_from d =
    if is_known (version_of d)
    then header_of_parts (text_from (get (codes "config") d)) (option_text_from (get (codes "vars") d)) (option_text_from (get (codes "state") d)) (text_from (get (codes "lineage") d))
    else None
