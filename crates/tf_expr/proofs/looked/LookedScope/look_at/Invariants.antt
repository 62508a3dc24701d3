use Rattle.std.proofs.Common.{◌≡◌, map, drop, string_bytes}
use Rattle.tf_expr.specs.Looked.{answer_of, answer_in}
use Rattle.tf_expr.proofs.looked.LookedScope.look_at.Given as goal

abbrev pub invariant-loop-answered : goal.invariant-loop-answered
invariant-loop-answered l =
    answer_in (map answer_of l.self.answers.items) (string_bytes l.reference.first) (string_bytes l.reference.name)
    ≡ answer_in (map answer_of (drop l.answered-index l.self.answers.items)) (string_bytes l.reference.first) (string_bytes l.reference.name)
