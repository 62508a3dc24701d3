use Rattle.std.proofs.Common.{◌≡◌, string_bytes, sym, ap, refl, ◌∙◌}
use Rattle.std.specs.Prelude.{option_and_then}
use Rattle.serde_json.specs.View.{members_view}
use Rattle.tf_state.specs.Reading.{value_in, values_in}
use Rattle.tf_value_data.specs.Tree.{put, tree_of, entries_view}
use Rattle.tf_value_data.proofs.Views.{entries_view-insert_entry}
use Rattle.tf_state.proofs.value_reading.read_values.Goals as goal

pub loop-key-preserved : goal.loop-key-preserved
loop-key-preserved c =
    let l = c.loop-key in
    let key = string_bytes c.in-Some.key.now in
    let value = c.in_ok-object.object.value in
    let found = entries_view l.entries.entries in
    let rest = members_view c.next.new.self in
    let entries : entries_view c.insert.new.self.entries ≡ put key (tree_of value) found =
    ap entries_view c.in_ok-insert.ensures.entries ∙ entries_view-insert_entry l.entries.entries c.in_ok-name.name value ∙ rw (c.in_ok-name.ensures.cases) refl in
    let read = ap (λ o. option_and_then (λ t. values_in value_in rest (put key t found)) o) c.in_ok-object.ensures.ok in
    ap (values_in value_in rest) entries ∙ sym (ap (λ ms. values_in value_in (members_view ms) found) c.in-Some.ensures.steps ∙ read) ∙ l.invariant
