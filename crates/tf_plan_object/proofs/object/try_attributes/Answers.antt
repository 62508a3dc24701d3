use Rattle.std.proofs.Common.{◌≡◌, ℕ, ◌+◌, List, [], ◌∷◌, sym, ap, ◌∙◌, map, drop, option_map}
use Rattle.std.proofs.lemmas.List.{drop_all}
use Rattle.tf_expr_syntax.specs.ExprTree.{get, tree_of as expr_of, entries_view as arguments_view}
use Rattle.tf_provider_protocol.specs.Schema.{attribute_of}
use Rattle.tf_value_data.specs.Tree.{tree_of, entries_view}
use Rattle.tf_plan_object.specs.Argument.{attribute_value}
use Rattle.tf_plan_object.specs.Gives.{Gives}
use Rattle.tf_plan_object.proofs.Attributes.{drop-item, so_far-step}
use Rattle.tf_plan_object.proofs.Entries.{onto-nothing}
use Rattle.tf_plan_object.proofs.object.try_attributes.Goals as goal

pub loop-attribute-preserved : goal.loop-attribute-preserved
loop-attribute-preserved g c =
    let env = g.S.Scope.environment c.args.scope.now in
    let xs = c.args.attributes.now in
    let i = c.loop-attribute.attribute-index in
    let arguments = arguments_view c.args.arguments.now.entries in
    let a = c.attribute-item.result in
    let left : map attribute_of (drop i xs) ≡ attribute_of a ∷ map attribute_of (drop (i + 1) xs) = ap (map attribute_of) (drop-item xs i a c.loop-attribute-test.true c.attribute-item.is) in
    let before = rw left at c.loop-attribute.invariant.0 in
    let argument : option_map (λ e. expr_of e.now) c.argument_named-argument.result ≡ get (attribute_of a).name arguments =
    c.argument_named-argument.ensures ∙ ap (λ (k : List ℕ). get k arguments) c.as_str.ensures.value in
    let planned = attribute_value env (attribute_of a) (get (attribute_of a).name arguments) in
    let gives : Gives tree_of c.attribute_value-value.result planned = rw argument at c.attribute_value-value.ensures.gives in
    let both = rw c.as_str-in-loop-attribute.ensures.value at (c.in_ok-tried.ensures.adds planned gives) in (
      so_far-step _ _ _ _ (attribute_of a) (map attribute_of (drop (i + 1) xs)) (map attribute_of xs) env arguments before both.0 both.1,
      c.in_ok-tried.ensures.within c.attribute_value-value.ensures.within c.loop-attribute.invariant.1,
    )

pub returns-clause-object : goal.returns-clause-object
returns-clause-object g c =
    let xs = c.args.attributes.now in
    let i = c.loop-attribute.attribute-index in
    let none : drop i xs ≡ [] = drop_all i xs c.loop-attribute-test.false in
    sym (onto-nothing (entries_view c.loop-attribute.tried.object.entries)) ∙ (rw none at c.loop-attribute.invariant.0).object
