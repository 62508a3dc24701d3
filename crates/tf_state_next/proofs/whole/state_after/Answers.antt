use Rattle.std.proofs.Common.{map, sym, subst}
use Rattle.std.specs.Prelude.{string_bytes}
use Rattle.tf_state_next.proofs.Composed.{homes_there, recorded_ordered, records_ordered, whole_is}
use Rattle.tf_state_next.proofs.Validity.{state_after_valid}
use Rattle.tf_state_next.specs.Events.{events_of}
use Rattle.tf_state_data.specs.Addresses.{AreByAddress}
use Rattle.tf_state_data.specs.Resource.{resource_of}
use Rattle.tf_state_data.specs.State.{outputs_of, state_of}
use Rattle.tf_state_next.proofs.whole.state_after.Goals as goal

pub recorded-requires-clause-there : goal.recorded-requires-clause-there
recorded-requires-clause-there c =
    homes_there (state_of c.args.draft.prior.now).resources (map (λ a. a.addr) (events_of c.args.events).applies) (map resource_of c.args.draft.resources.items) c.requires.draft.resources

pub new-state-requires : goal.new-state-requires
new-state-requires c =
    subst AreByAddress (sym c.present-resources.ensures)
    (recorded_ordered (events_of c.args.events) (map resource_of c.args.draft.resources.items) (map resource_of c.recorded.result.items) c.recorded.ensures c.requires.draft.ordered)

pub returns-clause-after : goal.returns-clause-after
returns-clause-after c =
    let h = c.requires.draft in
    whole_is (state_of c.args.draft.prior.now) (events_of c.args.events) (outputs_of c.args.outputs.entries) (map (λ a. a.addr) (events_of c.args.events).applies) (map resource_of c.args.draft.resources.items)
    (map resource_of c.recorded.result.items) c.serial.result (string_bytes c.args.draft.lineage) (string_bytes c.args.draft.terraform_version) (map resource_of c.present-resources.result.items) (state_of c.new-state.result)
    (state_of c.raised.result) h.ordered h.resources c.requires.apart c.recorded.ensures c.serial.ensures h.lineage h.version c.present-resources.ensures c.new-state.ensures c.raised.ensures

pub returns-clause-valid : goal.returns-clause-valid
returns-clause-valid c valid sound table =
    let h = c.requires.draft in
    let after =
    whole_is (state_of c.args.draft.prior.now) (events_of c.args.events) (outputs_of c.args.outputs.entries) (map (λ a. a.addr) (events_of c.args.events).applies) (map resource_of c.args.draft.resources.items)
    (map resource_of c.recorded.result.items) c.serial.result (string_bytes c.args.draft.lineage) (string_bytes c.args.draft.terraform_version) (map resource_of c.present-resources.result.items) (state_of c.new-state.result)
    (state_of c.raised.result) h.ordered h.resources c.requires.apart c.recorded.ensures c.serial.ensures h.lineage h.version c.present-resources.ensures c.new-state.ensures c.raised.ensures in
    state_after_valid (state_of c.args.draft.prior.now) (events_of c.args.events) (outputs_of c.args.outputs.entries) (state_of c.raised.result) valid c.requires.serial sound table
    (record { resources = c.raised.result.ordered; records = records_ordered c.raised.result.resources.items }) after
