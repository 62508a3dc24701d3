use Rattle.std.proofs.Common.{map}
use Rattle.tf_config_address.specs.ObjectId.{instance_key_of}
use Rattle.tf_plan_object.specs.Instance.{instance_object, instance_of}
use Rattle.tf_config_data.specs.Config.{block_at, lifecycle_of}
use Rattle.tf_plan_decision.proofs.Declared.{steps_done, refusal_told}
use Rattle.tf_plan_decision.specs.Views.{steps_of}
use Rattle.tf_plan_decision.specs.Answer.{decision_of, decision_fault_of}
use Rattle.tf_plan_decision.proofs.outcome.declared_outcome.Goals as goal
use Rattle.tf_state_data.specs.Record.{record_of}

pub returns-in_ok-decided_steps-in-Ok : goal.returns-in_ok-decided_steps-in-Ok
returns-in_ok-decided_steps-in-Ok g c = λ addr.
    let records = map record_of c.args.member.now.records.now in
    let object = instance_object c.args.schema.now (block_at addr c.args.block.now) (instance_key_of c.args.member.now.key) (g.S.Scope.environment c.args.scope.now) in
    let is = rw c.in-Ok.is at c.in_ok-decision.ensures in
    steps_done c.args.schema.now (lifecycle_of c.args.block.now.lifecycle) records (instance_of c.in_ok-planned.planned) object (c.in_ok-planned.ensures.plans addr) (decision_of c.in-Ok.decision)
    (steps_of c.in_ok-decided_steps-in-Ok.field-0.items) c.in_ok-decided_steps-in-Ok.ensures is

pub returns-in-Err : goal.returns-in-Err
returns-in-Err g c = λ addr.
    let records = map record_of c.args.member.now.records.now in
    let object = instance_object c.args.schema.now (block_at addr c.args.block.now) (instance_key_of c.args.member.now.key) (g.S.Scope.environment c.args.scope.now) in
    let is = rw c.in-Err.is at c.in_ok-decision.ensures in
    refusal_told c.args.schema.now (lifecycle_of c.args.block.now.lifecycle) records (instance_of c.in_ok-planned.planned) object (c.in_ok-planned.ensures.plans addr) (decision_fault_of c.in-Err.why) is
