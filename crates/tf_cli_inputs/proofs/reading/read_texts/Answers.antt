use Rattle.std.proofs.Common.{Option, List, ℕ}
use Rattle.tf_state_data.specs.State.{state_of}
use Rattle.tf_cli_inputs.proofs.Few.{plannable}
use Rattle.tf_cli_inputs.proofs.reading.read_texts.Goals as goal

pub returns-clause-plannable : goal.returns-clause-plannable
returns-clause-plannable c = plannable _ c.args.lineage.now (state_of c.in_ok-prior.prior) c.in_ok-prior.ensures.prior
