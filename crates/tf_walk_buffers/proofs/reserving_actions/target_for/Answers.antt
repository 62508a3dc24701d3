use Rattle.std.proofs.Common.{ap}
use Rattle.tf_plan_data.specs.Action.{step_of}
use Rattle.tf_plan_data.specs.Fits.{is_apply}
use Rattle.tf_walk_buffers.proofs.reserving_actions.target_for.Goals as goal

pub given_for-requires-clause-listed : goal.given_for-requires-clause-listed
given_for-requires-clause-listed c = c.requires.listed (ap (λ s. is_apply (step_of s)) c.in-Create.is)

pub given_for-requires-in-Update-clause-listed : goal.given_for-requires-in-Update-clause-listed
given_for-requires-in-Update-clause-listed c = c.requires.listed (ap (λ s. is_apply (step_of s)) c.in-Update.is)

pub given_for-requires-in-CreateReplacement-clause-listed : goal.given_for-requires-in-CreateReplacement-clause-listed
given_for-requires-in-CreateReplacement-clause-listed c = c.requires.listed (ap (λ s. is_apply (step_of s)) c.in-CreateReplacement.is)
