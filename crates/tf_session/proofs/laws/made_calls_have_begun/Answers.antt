use Rattle.tf_session.proofs.Served.{made_has_begun}
use Rattle.tf_session.proofs.laws.made_calls_have_begun.Goals as goal

pub returns : goal.returns
returns c = made_has_begun
