use Rattle.std.proofs.Common.{rules, append_assoc}
use Rattle.tf_walk_action.proofs.messages.evaluation_message.Goals as goal

pub returns : goal.returns
returns c = simp append_assoc (search rules)
