use Rattle.tf_plan_decision.proofs.Causes.{creates_first, replaces_caused, updates_differ}
use Rattle.tf_plan_decision.proofs.laws.changes_have_a_cause.Goals as goal

pub returns : goal.returns
returns c = record { creates = creates_first; updates = updates_differ; replaces = replaces_caused }
