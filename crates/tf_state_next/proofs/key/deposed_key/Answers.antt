use Rattle.std.proofs.Common.{◌≤◌, ◌^◌, map, arith}
use Rattle.std.proofs.lemmas.List.{length-map}
use Rattle.tf_config_address.specs.ObjectId.{instance_key_of}
use Rattle.tf_state_next.proofs.Crowded.{keys_crowded}
use Rattle.tf_state_data.specs.Record.{record_of}
use Rattle.tf_state_next.proofs.key.deposed_key.Goals as goal

-- as more keys would be used than there are records
pub unreachable-requires : goal.unreachable-requires
unreachable-requires c =
    let some : c.loop-steps.steps ≤ 2 ^ 32 = omega arith in
    let many = keys_crowded c.args.serial c.loop-steps.steps (instance_key_of c.args.key.now) (map record_of c.args.records.now) some c.loop-steps.invariant in
    omega (arith, length-map c.args.records.now record_of)
