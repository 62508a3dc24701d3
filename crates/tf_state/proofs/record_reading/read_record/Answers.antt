use Rattle.std.proofs.Common.{◌≡◌, true, rules}
use Rattle.serde_json.specs.View.{view}
use Rattle.tf_config_address.specs.ObjectId.{object_id_of}
use Rattle.tf_state.specs.Reading.{is_record}
use Rattle.tf_state.proofs.Refusals.{refused_behind}
use Rattle.tf_state.proofs.record_reading.read_record.Goals as goal

pub returns-in_err-body-clause-err : goal.returns-in_err-body-clause-err
returns-in_err-body-clause-err c =
    let d = view c.args.json.now in
    let is : is_record d ≡ true = search rules in
    let refused = refused_behind d (object_id_of c.in_ok-id.id) _ is c.in_ok-id.ensures.ok (c.in_err-body.ensures.err c.in_ok-id.id) in
    search (rules, refused)
