use Rattle.tf_plan_order.proofs.Spreading.{ties-sound}
use Rattle.tf_plan_order.proofs.laws.order_input_is_sound.Goals as goal

pub returns : goal.returns
returns c = ties-sound
