use Rattle.tf_state.proofs.StateLaws.{text_is_of_one}
use Rattle.tf_state.proofs.laws.texts_are_of_one.Goals as goal

pub returns : goal.returns
returns c = text_is_of_one
