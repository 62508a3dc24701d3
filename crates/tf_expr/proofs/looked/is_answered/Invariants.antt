use Rattle.std.proofs.Common.{◌≡◌, map, drop, string_bytes}
use Rattle.tf_expr.specs.Looked.{answer_of, is_answered}
use Rattle.tf_expr.proofs.looked.is_answered.Given as goal

abbrev pub invariant-loop-answered : goal.invariant-loop-answered
invariant-loop-answered l =
    is_answered (map answer_of l.answers.items) (string_bytes l.reference.first) (string_bytes l.reference.name)
    ≡ is_answered (map answer_of (drop l.answered-index l.answers.items)) (string_bytes l.reference.first) (string_bytes l.reference.name)
