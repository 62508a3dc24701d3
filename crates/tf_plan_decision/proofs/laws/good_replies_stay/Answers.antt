use Rattle.tf_plan_decision.proofs.Applied.{answers_stay}
use Rattle.tf_plan_decision.proofs.Fitting.{good_fit}
use Rattle.tf_plan_decision.proofs.Replies.{replies_stay}
use Rattle.tf_plan_decision.proofs.laws.good_replies_stay.Goals as goal

pub returns : goal.returns
returns c = record { fits = good_fit; change = replies_stay; decision = answers_stay }
