-- The JSON forms of what the lines of a log say.
use Rattle.std.specs.Prelude.{ℕ, List, codes, Option, Some, None}
use Rattle.serde_json.specs.Data as json
use Rattle.serde_json.specs.Find.{of_integer}
use Rattle.tf_provider_protocol.specs.Meaning.{Asked, Answer, object, gone, failed}
use Rattle.tf_provider_protocol.specs.declared.request.Op.{Op}
use Rattle.tf_provider_protocol.specs.declared.request.Op.TheVariants as op
use Rattle.tf_value_data.specs.Tree as tree
use Rattle.tf_provider_log.specs.LogEntry.{LogEntryView, begun, replied, HeaderView}

-- the number for an unknown part: no value holds it, as it is above the whole numbers of 64 bits with a sign
abbrev pub unknown_number : ℕ
unknown_number = 18446744073709551615

-- The form of a value is its JSON form, with that number for each unknown part. A set has no form: no value with one
-- is written, and its form is defined as null.
abbrev mutual
  pub value_form : tree.Tree → json.Data
  value_form tree.null = json.null
  value_form (tree.boolean b) = json.boolean b
  value_form (tree.whole z) = json.number (of_integer z)
  value_form (tree.text s) = json.string s
  value_form (tree.list ts) = json.array (items_form ts)
  value_form (tree.map es) = json.object (members_form es)
  value_form (tree.set ss) = json.null
  value_form tree.unknown = json.number (json.unsigned unknown_number)

  pub items_form : tree.Items → json.Items
  items_form tree.no_items = json.no_items
  items_form (tree.item t ts) = json.item (value_form t) (items_form ts)

  pub members_form : tree.Entries → json.Members
  members_form tree.no_entries = json.no_members
  members_form (tree.entry k t es) = json.member k (value_form t) (members_form es)

-- a text, or null if there is none
abbrev pub text_form : Option (List ℕ) → json.Data
text_form None = json.null
text_form (Some s) = json.string s

-- an array of the value, or an empty array if there is none
abbrev pub option_form : Option tree.Tree → json.Data
option_form None = json.array json.no_items
option_form (Some t) = json.array (json.item (value_form t) json.no_items)

-- the word for an operation
abbrev pub op_word : Op → List ℕ
op_word op.Create = codes "create"
op_word op.Update = codes "update"
op_word op.Destroy = codes "destroy"

-- the form of a request: each of its parts at a key
abbrev pub request_form : Asked → json.Data
request_form r =
    json.object
    (json.member (codes "address") (json.string r.address)
    (json.member (codes "deposed") (text_form r.deposed)
    (json.member (codes "object") (option_form r.object)
    (json.member (codes "op") (json.string (op_word r.op))
    (json.member (codes "prior") (option_form r.prior)
    (json.member (codes "type") (json.string r.type_name)
    json.no_members))))))

-- the form of a reply, which is null if memory ran out
abbrev pub reply_form : Option Answer → json.Data
reply_form None = json.null
reply_form (Some (object t)) = json.object (json.member (codes "object") (value_form t) json.no_members)
reply_form (Some gone) = json.string (codes "gone")
reply_form (Some (failed message t)) = json.object (json.member (codes "failed") (json.string message) (json.member (codes "object") (option_form t) json.no_members))

-- the form of an entry: a request at the key `begun`, or one at the key `answered` and the reply at the key `reply`
abbrev pub entry_form : LogEntryView → json.Data
entry_form (begun r) = json.object (json.member (codes "begun") (request_form r) json.no_members)
entry_form (replied r a) = json.object (json.member (codes "answered") (request_form r) (json.member (codes "reply") (reply_form a) json.no_members))

-- the form of a header: its texts at their keys, and the version of the log
abbrev pub header_form : HeaderView → json.Data
header_form h =
    json.object
    (json.member (codes "config") (json.string h.config)
    (json.member (codes "lineage") (json.string h.lineage)
    (json.member (codes "state") (text_form h.state)
    (json.member (codes "vars") (text_form h.vars)
    (json.member (codes "version") (json.number (json.unsigned 1))
    json.no_members)))))
