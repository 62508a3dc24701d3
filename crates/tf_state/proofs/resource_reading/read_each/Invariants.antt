-- What is read from here on, onto the resources found, is what is read from the start.
use Rattle.std.proofs.Common.{◌≡◌, []}
use Rattle.serde_json.specs.View.{items_view}
use Rattle.tf_state.specs.Made.{resources_made}
use Rattle.tf_state.specs.Reading.{resources_in}
use Rattle.tf_state.proofs.resource_reading.read_each.Given as goal

abbrev pub invariant-loop-item : goal.invariant-loop-item
invariant-loop-item l = resources_in (items_view l.item-iterator.rest.items) (resources_made l.resources.entries) ≡ resources_in (items_view l.initial.item-iterator.rest.items) []
