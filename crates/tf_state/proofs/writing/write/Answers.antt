use Rattle.tf_state_data.specs.State.{state_of}
use Rattle.tf_state.specs.Text.{state_data}
use Rattle.tf_state.proofs.Floats.{state_data-whole}
use Rattle.tf_state.proofs.writing.write.Goals as goal

pub returns-in-Ok : goal.returns-in-Ok
returns-in-Ok c = let s = state_of c.args.state.now in c.in-Ok.ensures.tree.2 (state_data s) c.in-Ok.ensures.tree.1 (state_data-whole s)
