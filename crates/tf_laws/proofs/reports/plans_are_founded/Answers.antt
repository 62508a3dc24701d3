use Rattle.tf_laws.proofs.Fitting.{fitting_founded}
use Rattle.tf_laws.proofs.PlannedFounded.{planned_founded}
use Rattle.tf_laws.proofs.reports.plans_are_founded.Goals as goal

pub returns : goal.returns
returns c = record { fitting = fitting_founded; planned = planned_founded }
