-- What is read from here on, onto the addresses found, is what is read from the start.
use Rattle.std.proofs.Common.{◌≡◌, [], map, drop, string_bytes}
use Rattle.serde_json.specs.View.{items_view}
use Rattle.tf_state.specs.Reading.{addresses_in}
use Rattle.tf_state.proofs.value_reading.read_addresses.Given as goal

abbrev pub invariant-loop-item : goal.invariant-loop-item
invariant-loop-item l = addresses_in (items_view (drop l.item-index l.items)) (map string_bytes l.addresses.keys) ≡ addresses_in (items_view l.items) []
