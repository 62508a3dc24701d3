use Rattle.tf_laws.proofs.Knowing.{Keeps, expressions_known}
use Rattle.tf_laws.proofs.Settled.{objects_settled}
use Rattle.tf_laws.proofs.convergence.known_names_give_known_values.Goals as goal

pub returns : goal.returns
returns c =
    let law = c.known_stays_known.ensures in
    let keeps : Keeps = record { operators = law.operators; parts = law.parts; collections = law.collections; calls = law.calls } in
    record { expressions = expressions_known keeps; objects = objects_settled (expressions_known keeps) }
