use Rattle.tf_provider_log.proofs.Replays.{same_is_equality}
use Rattle.tf_provider_log.proofs.replay_laws.same_requests_are_one.Goals as goal

pub returns : goal.returns
returns c = same_is_equality
