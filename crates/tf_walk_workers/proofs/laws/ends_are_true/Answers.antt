use Rattle.tf_walk_workers.proofs.CallsSeen.{calls_true, excuses_true}
use Rattle.tf_walk_workers.proofs.laws.ends_are_true.Goals as goal

pub returns : goal.returns
returns c = record { calls = calls_true; excuses = excuses_true }
