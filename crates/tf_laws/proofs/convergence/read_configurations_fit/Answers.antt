use Rattle.tf_laws.proofs.Read.{read_names, read_sound}
use Rattle.tf_laws.proofs.convergence.read_configurations_fit.Goals as goal

pub returns : goal.returns
returns c = record { sound = read_sound; names = read_names }
