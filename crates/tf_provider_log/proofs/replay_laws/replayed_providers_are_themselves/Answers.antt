use Rattle.tf_provider_log.proofs.Replays.{replayed_are_themselves}
use Rattle.tf_provider_log.proofs.replay_laws.replayed_providers_are_themselves.Goals as goal

pub returns : goal.returns
returns c = replayed_are_themselves
