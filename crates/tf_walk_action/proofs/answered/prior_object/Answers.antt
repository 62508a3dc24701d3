use Rattle.std.proofs.Common.{◌∙◌, arith}
use Rattle.tf_config_address.specs.ObjectId.{instance_key_of}
use Rattle.tf_config_names.specs.Table.{names_in}
use Rattle.tf_state_data.specs.State.{state_of}
use Rattle.tf_walk_action.proofs.Lookup.{prior-past}
use Rattle.tf_walk_action.proofs.answered.prior_object.Goals as goal

pub returns-then-place-len : goal.returns-then-place-len
returns-then-place-len c = c.no_object.ensures ∙ prior-past (state_of c.args.prior.now) (instance_key_of c.args.key.now) (names_in c.args.names.now) c.args.place (omega (arith, c.if-place-len.true, c.len.ensures))
