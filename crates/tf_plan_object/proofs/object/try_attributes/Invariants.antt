-- the values and faults so far, with those of the attributes that are left
use Rattle.std.proofs.Common.{◌≡◌, true, map, drop, option_map}
use Rattle.tf_expr_syntax.specs.ExprTree.{entries_view as arguments_view}
use Rattle.tf_provider_protocol.specs.Schema.{attribute_of}
use Rattle.tf_value_data.specs.Tree.{entries_view}
use Rattle.tf_plan_object.specs.Bounded.{each_may_be_planned}
use Rattle.tf_plan_object.specs.Object.{named_fault_of}
use Rattle.tf_plan_object.proofs.Attributes.{IsSoFar}
use Rattle.tf_plan_object.proofs.object.try_attributes.Given as goal

abbrev pub invariant-loop-attribute : goal.invariant-loop-attribute
invariant-loop-attribute g l =
    IsSoFar (entries_view l.tried.object.entries) (option_map named_fault_of l.tried.fault) (map attribute_of (drop l.attribute-index l.attributes)) (map attribute_of l.attributes) (g.S.Scope.environment l.scope) (arguments_view l.arguments.entries)
    × (each_may_be_planned (entries_view l.tried.object.entries) ≡ true)
