use Rattle.std.proofs.Common.{refl}
use Rattle.tf_walk_outputs.specs.Outputs.{faulted}
use Rattle.tf_walk_outputs.proofs.keeping.keep.Goals as goal

pub returns-in-Faulted : goal.returns-in-Faulted
returns-in-Faulted c = rw c.in-Faulted.is (record { kept = faulted c.in-Faulted.fault; same = refl; told = refl; saves = refl })
