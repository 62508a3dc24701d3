use Rattle.std.proofs.Common.{◌≡◌, map, drop, string_bytes}
use Rattle.tf_expr_eval.specs.Constants.{constant_of, constant_in}
use Rattle.tf_expr_eval.proofs.constants.ConstantsScope.look_at.Given as goal

abbrev pub invariant-loop-constant : goal.invariant-loop-constant
invariant-loop-constant l =
    constant_in (map constant_of l.self.constants.items) (string_bytes l.reference.first) (string_bytes l.reference.name)
    ≡ constant_in (map constant_of (drop l.constant-index l.self.constants.items)) (string_bytes l.reference.first) (string_bytes l.reference.name)
