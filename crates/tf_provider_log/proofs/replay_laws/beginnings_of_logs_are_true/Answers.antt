use Rattle.tf_provider_log.proofs.Replays.{beginnings_are_true}
use Rattle.tf_provider_log.proofs.replay_laws.beginnings_of_logs_are_true.Goals as goal

pub returns : goal.returns
returns c = beginnings_are_true
