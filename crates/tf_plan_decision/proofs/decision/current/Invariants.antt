-- the current object among those that are left
use Rattle.std.proofs.Common.{◌≡◌, drop, map}
use Rattle.tf_state_data.specs.Record.{record_of}
use Rattle.tf_plan_decision.specs.Decision.{current}
use Rattle.tf_plan_decision.proofs.decision.current.Given as goal

abbrev pub invariant-loop-record : goal.invariant-loop-record
invariant-loop-record l = current (map record_of l.records) ≡ current (map record_of (drop l.record-index l.records))
