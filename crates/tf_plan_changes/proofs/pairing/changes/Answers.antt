use Rattle.std.proofs.lemmas.Grind.{common_steps}
use Rattle.std.proofs.lemmas.List.Elements.{filter_map-append}
use Rattle.std.proofs.Common.{arith}
use Rattle.tf_plan_changes.proofs.pairing.changes.Goals as goal

pub loop-action-preserved : goal.loop-action-preserved
loop-action-preserved c = grind (arith, common_steps, filter_map-append)
