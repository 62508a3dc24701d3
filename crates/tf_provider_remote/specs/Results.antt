-- The results of calls that were in flight, as the lines of a file say them.
use Rattle.std.specs.Prelude.{◌&&◌, ℕ, List, codes, Bool, Option, Some, None, option_and_then, option_map, string_bytes}
use Rattle.std.specs.Str.{bytes_eq}
use Rattle.serde_json.specs.Data as json
use Rattle.serde_json.specs.Find.{get}
use Rattle.tf_provider_log.specs.Form.{op_word}
use Rattle.tf_provider_log.specs.From.{text_from}
use Rattle.tf_provider_log.specs.Line.{tree_in}
use Rattle.tf_provider_log.specs.Same.{is_same_option}
use Rattle.tf_provider_protocol.specs.Meaning.{Answer, Asked, answered}
use Rattle.tf_provider_remote.specs.Responses.{answer_from}
use Rattle.tf_provider_remote.specs.declared.results.CallResult.{CallResult}

-- a result: of which object, of which operation, of which deposed object if of one, and the answer
pub record ResultView : Type 0 where
  pub address : List ℕ
  pub op : List ℕ
  pub deposed : Option (List ℕ)
  pub answer : Option Answer

-- a result of the code
abbrev pub result_of : CallResult → ResultView
result_of r = record { address = string_bytes r.address; op = string_bytes r.op; deposed = option_map string_bytes r.deposed; answer = answered r.reply }

-- a string reads as a key, and null, or nothing, as no key
abbrev pub key_from : Option json.Data → Option (Option (List ℕ))
key_from None = Some None
key_from (Some json.null) = Some None
key_from (Some (json.string s)) = Some (Some s)
key_from _ = None

-- the result of its parts, if all of them are read
abbrev pub result_of_parts : Option (List ℕ) → Option (List ℕ) → Option (Option (List ℕ)) → Option Answer → Option ResultView
result_of_parts (Some place) (Some word) (Some key) (Some a) = Some record { address = place; op = word; deposed = key; answer = Some a }
result_of_parts _ _ _ _ = None

-- the result that a tree says
abbrev pub result_from : json.Data → Option ResultView
result_from d = result_of_parts (text_from (get (codes "address") d)) (text_from (get (codes "op") d)) (key_from (get (codes "deposed") d)) (answer_from d)

-- the result that a line says
abbrev pub result_in : List ℕ → Option ResultView
result_in line = option_and_then result_from (tree_in line)

-- a result is of a request if it names the same object and operation
abbrev pub is_of : ResultView → Asked → Bool
is_of r a = bytes_eq r.address a.address && (bytes_eq r.op (op_word a.op) && is_same_option bytes_eq r.deposed a.deposed)
