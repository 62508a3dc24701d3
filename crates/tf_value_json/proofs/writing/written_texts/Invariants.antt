use Rattle.std.proofs.Common.{◌≡◌, ◌++◌, map, string_bytes}
use Rattle.serde_json.specs.Data as json
use Rattle.serde_json.specs.View.{view}
use Rattle.tf_value_json.proofs.writing.written_texts.Given as goal

abbrev pub invariant-loop-text : goal.invariant-loop-text
invariant-loop-text l =
    map view l.array.items ++ map (λ s. json.string (string_bytes s)) l.text-iterator ≡ map (λ s. json.string (string_bytes s)) l.texts.keys
