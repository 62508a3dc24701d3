use Rattle.tf_provider_log.proofs.Beginnings.{beginnings_read}
use Rattle.tf_cli_program.proofs.Cut.{as_far}
use Rattle.tf_cli_program.proofs.Kept.{some_are_lines, some_are_true}
use Rattle.tf_cli_program.proofs.laws.what_lines_are_kept_is_recovered.Goals as goal

pub returns : goal.returns
returns c = λ ms given written es some texts some_texts bytes rest h is lines kept cut.
    as_far ms given written some some_texts bytes (some_are_true ms some es some_texts texts kept h)
    (beginnings_read given written some some_texts bytes rest is (some_are_lines some es some_texts texts kept lines) cut)
