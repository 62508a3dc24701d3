-- the calls of the actions passed are counted
use Rattle.std.proofs.Common.{◌≡◌, ◌≤◌}
use Rattle.std.specs.Prelude.{is_some}
use Rattle.tf_claim.specs.Claims.{how_many}
use Rattle.tf_walk_report.specs.Told.{verdict_told}
use Rattle.tf_walk_report.proofs.calls_told.count_told.Given as goal

abbrev pub invariant-loop-action : goal.invariant-loop-action
invariant-loop-action l =
    record {
      counted : l.count ≡ how_many (λ n. is_some (verdict_told l.outcomes l.excused n)) l.action;
      few : l.count ≤ l.action;
    }
