-- What is read from here on, onto the values found, is what is read from the start.
use Rattle.std.proofs.Common.{◌≡◌}
use Rattle.serde_json.specs.View.{members_view}
use Rattle.tf_value_data.specs.Tree.{no_entries, entries_view}
use Rattle.tf_state.specs.Reading.{value_in, values_in}
use Rattle.tf_state.proofs.value_reading.read_values.Given as goal

abbrev pub invariant-loop-key : goal.invariant-loop-key
invariant-loop-key l = values_in value_in (members_view l.key-iterator) (entries_view l.entries.entries) ≡ values_in value_in (members_view l.members.entries) no_entries
