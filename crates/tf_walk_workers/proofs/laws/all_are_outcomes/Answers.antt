use Rattle.tf_walk_workers.proofs.Outcomes.{true_outcomes, excused_faultless}
use Rattle.tf_walk_workers.proofs.laws.all_are_outcomes.Goals as goal

pub returns : goal.returns
returns c = record { outcomes = true_outcomes; during = excused_faultless }
