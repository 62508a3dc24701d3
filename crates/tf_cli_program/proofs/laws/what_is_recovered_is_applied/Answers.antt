use Rattle.std.proofs.Common.{subst}
use Rattle.std.specs.Prelude.{List}
use Rattle.tf_provider_log.proofs.Replays.{replayed_are_themselves}
use Rattle.tf_provider_protocol.specs.Meaning.{Meaning}
use Rattle.tf_cli_program.specs.Recovered.{IsRecovered}
use Rattle.tf_cli_program.proofs.laws.what_is_recovered_is_applied.Goals as goal

pub returns : goal.returns
returns c = λ ms es given answers state h recovered.
    subst (λ (ns : List Meaning). IsRecovered ns given answers state) (replayed_are_themselves ms es h) recovered
