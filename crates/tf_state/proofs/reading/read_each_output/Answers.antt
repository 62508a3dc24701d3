use Rattle.std.proofs.Common.{◌≡◌, string_bytes, sym, ap, refl, ◌∙◌}
use Rattle.std.specs.Prelude.{option_and_then}
use Rattle.serde_json.specs.View.{members_view}
use Rattle.tf_state.specs.Reading.{output_in, values_in}
use Rattle.tf_state_data.specs.State.{outputs_of}
use Rattle.tf_value_data.specs.Tree.{put, tree_of}
use Rattle.tf_state.proofs.Loops.{outputs_of-insert_entry}
use Rattle.tf_state.proofs.reading.read_each_output.Goals as goal

pub loop-key-preserved : goal.loop-key-preserved
loop-key-preserved c =
    let l = c.loop-key in
    let key = string_bytes c.in-Some.key.now in
    let value = c.in_ok-output.output in
    let found = outputs_of l.outputs.entries in
    let rest = members_view c.next.new.self in
    let entries : outputs_of c.insert.new.self.entries ≡ put key (tree_of value.value) found =
    ap outputs_of c.in_ok-insert.ensures.entries ∙ outputs_of-insert_entry l.outputs.entries c.in_ok-name.name value ∙ rw (c.in_ok-name.ensures.cases) refl in
    let read = ap (λ o. option_and_then (λ t. values_in output_in rest (put key t found)) o) c.in_ok-output.ensures.ok in
    ap (values_in output_in rest) entries ∙ sym (ap (λ ms. values_in output_in (members_view ms) found) c.in-Some.ensures.steps ∙ read) ∙ l.invariant
