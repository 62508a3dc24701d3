use Rattle.std.proofs.Common.{◌++◌, map, string_bytes, sym, ap, ◌∙◌}
use Rattle.std.proofs.lemmas.List.{append-nil}
use Rattle.serde_json.specs.Data as json
use Rattle.serde_json.specs.View.{view, items_of}
use Rattle.tf_value_json.proofs.JsonForms.{written_texts-is}
use Rattle.tf_value_json.proofs.writing.written_texts.Goals as goal

pub returns : goal.returns
returns c =
    let done = map view c.loop-text.array.items in
    let none = ap (λ ss. done ++ map (λ s. json.string (string_bytes s)) ss) c.in-None.ensures.steps.0 in
    ap items_of (sym (append-nil done) ∙ sym none ∙ c.loop-text.invariant) ∙ written_texts-is c.args.texts.now.keys
