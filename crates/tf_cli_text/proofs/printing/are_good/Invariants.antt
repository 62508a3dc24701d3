-- the outcomes passed are good
use Rattle.std.proofs.Common.{◌≡◌, drop}
use Rattle.std.specs.List.{list_all}
use Rattle.tf_cli_text.specs.Shown.{is_good_outcome}
use Rattle.tf_cli_text.proofs.printing.are_good.Given as goal

abbrev pub invariant-loop-outcome : goal.invariant-loop-outcome
invariant-loop-outcome l = list_all is_good_outcome (drop l.outcome-index l.outcomes) ≡ list_all is_good_outcome l.outcomes
