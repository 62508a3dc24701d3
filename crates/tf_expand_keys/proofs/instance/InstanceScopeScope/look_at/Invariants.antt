use Rattle.std.proofs.Common.{◌≡◌, map, drop, string_bytes}
use Rattle.tf_expr_eval.specs.Constants.{constant_of}
use Rattle.tf_expand_keys.specs.Instance.{bound}
use Rattle.tf_expand_keys.proofs.instance.InstanceScopeScope.look_at.Given as goal

abbrev pub invariant-loop-constant : goal.invariant-loop-constant
invariant-loop-constant g l =
    bound (map constant_of l.self.constants.now.constants.items) (g.S.Scope.environment l.self.around.now) (string_bytes l.reference.first) (string_bytes l.reference.name)
    ≡ bound (map constant_of (drop l.constant-index l.self.constants.now.constants.items)) (g.S.Scope.environment l.self.around.now) (string_bytes l.reference.first) (string_bytes l.reference.name)
