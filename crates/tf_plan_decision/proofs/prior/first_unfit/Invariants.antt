-- what is wrong first with the objects that are left
use Rattle.std.proofs.Common.{◌≡◌, drop, map}
use Rattle.tf_state_data.specs.Record.{record_of}
use Rattle.tf_plan_decision.specs.Prior.{first_unfit}
use Rattle.tf_plan_decision.proofs.prior.first_unfit.Given as goal

abbrev pub invariant-loop-record : goal.invariant-loop-record
invariant-loop-record l = first_unfit l.schema (map record_of l.records) ≡ first_unfit l.schema (map record_of (drop l.record-index l.records))
