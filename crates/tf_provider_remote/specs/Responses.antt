-- What the lines of a provider's pipe say.
use Rattle.std.specs.Prelude.{ℕ, List, [], ◌∷◌, codes, Option, Some, None, true, option_and_then, option_map}
use Rattle.serde_json.specs.Data as json
use Rattle.serde_json.specs.Find.{as_number, as_u64, get}
use Rattle.tf_provider_log.specs.Line.{tree_in}
use Rattle.tf_provider_protocol.specs.Meaning.{Answer, answered, object, gone, failed}
use Rattle.tf_provider_remote.specs.declared.replies.Response.{Response}
use Rattle.tf_value_data.specs.Tree.{Tree}
use Rattle.tf_value_json.specs.Json.{tree_from}

-- the object that a failure leaves: none if it is absent or null
abbrev pub left_from : Option json.Data → Option Tree
left_from None = None
left_from (Some json.null) = None
left_from (Some d) = Some (tree_from d)

-- a failure, whose message is a string
abbrev pub failure_from : json.Data → Option json.Data → Option Answer
failure_from (json.string message) left = Some (failed message (left_from left))
failure_from _ left = None

-- true says that the object is gone
abbrev pub gone_from : json.Data → Option Answer
gone_from (json.boolean true) = Some gone
gone_from _ = None

-- the answer by the values at the keys `failed`, `object` and `gone`
abbrev pub answer_of_members : Option json.Data → Option json.Data → Option json.Data → Option Answer
answer_of_members (Some message) left None = failure_from message left
answer_of_members None (Some there) None = Some (object (tree_from there))
answer_of_members None None (Some flag) = gone_from flag
answer_of_members _ _ _ = None

-- the answer that a tree says
abbrev pub answer_from : json.Data → Option Answer
answer_from d = answer_of_members (get (codes "failed") d) (get (codes "object") d) (get (codes "gone") d)

-- the number of the request that a tree answers
abbrev pub id_from : json.Data → Option ℕ
id_from d = option_and_then as_u64 (option_and_then as_number (get (codes "id") d))

-- the answer, with the number of its request, if there are both
abbrev pub response_of_parts : Option ℕ → Option Answer → Option (ℕ × Answer)
response_of_parts (Some id) (Some a) = Some (id, a)
response_of_parts _ _ = None

-- what a tree says
abbrev pub response_from : json.Data → Option (ℕ × Answer)
response_from d = response_of_parts (id_from d) (answer_from d)

-- what a line says
abbrev pub response_in : List ℕ → Option (ℕ × Answer)
response_in line = option_and_then response_from (tree_in line)

-- what a line says, and then what those after it say; nothing if the line isn't a reply
abbrev pub responses_then : Option (ℕ × Answer) → List (ℕ × Answer) → List (ℕ × Answer)
responses_then None rest = []
responses_then (Some r) rest = r ∷ rest

-- what lines say, up to the first that isn't a reply
abbrev pub responses_in : List (List ℕ) → List (ℕ × Answer)
responses_in [] = []
responses_in (line ∷ lines) = responses_then (response_in line) (responses_in lines)

-- a reply of the code, with its number
abbrev pub response_of : Response → ℕ × Option Answer
response_of r = (r.id, answered r.reply)

-- an answer, with its number
abbrev pub numbered : ℕ × Answer → ℕ × Option Answer
numbered r = (r.0, Some r.1)
