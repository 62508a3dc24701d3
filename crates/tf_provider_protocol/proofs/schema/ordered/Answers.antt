use Rattle.std.proofs.Common.{arith}
use Rattle.std.proofs.lemmas.Grind.{common_steps}
use Rattle.tf_provider_protocol.proofs.Placed.{placed_all-push}
use Rattle.tf_provider_protocol.proofs.schema.ordered.Goals as goal

pub loop-attribute-preserved : goal.loop-attribute-preserved
loop-attribute-preserved c = grind (arith, common_steps, placed_all-push)
