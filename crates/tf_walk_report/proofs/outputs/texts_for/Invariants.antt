-- the places of the outputs so far, with those that are left
use Rattle.std.proofs.Common.{◌≡◌, ◌++◌}
use Rattle.tf_expr_syntax.specs.ExprTree.{entries_view}
use Rattle.tf_walk_report.specs.OutputsBuffers.{places_in, places_of}
use Rattle.tf_walk_report.proofs.outputs.texts_for.Given as goal

abbrev pub invariant-loop-name : goal.invariant-loop-name
invariant-loop-name l = places_in l.texts.items ++ places_of (entries_view l.name-iterator) ≡ places_of (entries_view l.outputs.entries)
