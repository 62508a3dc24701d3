use Rattle.tf_expand_keys.proofs.Keeping.{AreNothing}
use Rattle.tf_expand_keys.proofs.table.unresolved_names.Given as goal

abbrev pub invariant-loop : goal.invariant-loop
invariant-loop l = AreNothing l.counter l.kept.items
