use Rattle.std.proofs.Common.{◌≡◌, ◌∷◌, [], ◌++◌, sym, ap, ◌∙◌, subst, true, inl, inr}
use Rattle.std.specs.Option.{option_to_list}
use Rattle.tf_value_data.specs.Tree.{tree_of, items_of}
use Rattle.tf_expr_operators.specs.Answer.{Gives}
use Rattle.tf_expr_operators.specs.Found.{found_tree}
use Rattle.tf_expr_operators.specs.Functions.{merge_value, concat_value, join_value}
use Rattle.tf_expr_syntax.specs.Function.{takes}
use Rattle.tf_expr_operators.proofs.Called.{call-Merge, call-Concat, call-Join}
use Rattle.tf_expr_operators.proofs.calls.call.Goals as goal

pub returns-in-Merge : goal.returns-in-Merge
returns-in-Merge c =
    let f = c.args.function in
    let all = c.args.arguments.items in
    let fit : takes f _ ≡ true = ap (takes f) (sym c.args.arguments.ok.0) ∙ c.requires in
    let same = ap items_of c.in_ok-all_owned-in-Merge.ensures in
    elim c.in-Merge.is [
      | inl maps ↦ subst (λ a. Gives a c.in_one.result) (ap merge_value same ∙ sym (call-Merge f all maps fit)) (c.in_one.ensures.merge maps)
      | inr lists ↦ subst (λ a. Gives a c.in_one.result) (ap concat_value same ∙ sym (call-Concat f all lists fit)) (c.in_one.ensures.concat lists)
    ]

pub returns-in-Some-pop : goal.returns-in-Some-pop
returns-in-Some-pop c =
    let fit : takes c.args.function _ ≡ true = ap (takes c.args.function) (sym c.args.arguments.ok.0) ∙ c.requires in
    let last = c.in-Some.last in
    let front = c.pop-in_default-function.new.self.items in
    let separator = c.in-Some-pop.separator in
    let parts = c.pop.ensures.items ∙ ap (λ o. c.pop.new.self.items ++ option_to_list o) c.in-Some.is
    ∙ ap (λ vs. vs ++ last ∷ []) (c.pop-in_default-function.ensures.items ∙ ap (λ o. front ++ option_to_list o) c.in-Some-pop.is) in
    let not_one = c.in_default-function in
    let joined = sym (call-Join c.args.function c.args.arguments.items front separator last not_one.not-Length not_one.not-Keys not_one.not-Values not_one.not-ToSet c.in_default.not-Merge c.in_default.not-Concat fit parts) in
    subst (λ a. Gives a c.join.result) joined (subst (λ t. Gives (join_value t (found_tree last)) c.join.result) c.value-in-Some-pop.ensures (subst (λ t. Gives (join_value (tree_of c.value-in-Some-pop.result.now) t) c.join.result) c.value-in-Some-pop-2.ensures c.join.ensures))
