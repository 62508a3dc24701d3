use Rattle.tf_provider_log.proofs.Beginnings.{beginnings_read}
use Rattle.tf_cli_program.proofs.Cut.{as_far}
use Rattle.tf_cli_program.proofs.laws.what_a_cut_log_leaves_is_recovered.Goals as goal

pub returns : goal.returns
returns c = λ ms given written es texts bytes rest h is lines cut. as_far ms given written es texts bytes h (beginnings_read given written es texts bytes rest is lines cut)
