use Rattle.std.proofs.Common.{ap, ◌∙◌, Some, sym}
use Rattle.tf_value_data.specs.Tree.{text, tree_of}
use Rattle.tf_expr_operators.specs.Answer.{is_unknown, item_behind}
use Rattle.tf_expr_operators.specs.Joining.{text_of, joined_value}
use Rattle.tf_expr_operators.proofs.Trees.{tree_of-Int, tree_of-Bool, tree_of-Unknown, misfit-of}
use Rattle.tf_expr_operators.proofs.Joined.{pushed-as, unknown-joins}
use Rattle.tf_expr_operators.proofs.joining.Joiner.push_value.Goals as goal

pub returns-in_ok-digits-in-Int-clause-ok : goal.returns-in_ok-digits-in-Int-clause-ok
returns-in_ok-digits-in-Int-clause-ok c =
    let seen = sym (ap tree_of c.in-Int.is ∙ tree_of-Int c.in-Int.number) in
    pushed-as c.push_text-in-Int.result _ _ (text c.as_str-in-Int.result.now) (tree_of c.args.value.now) (ap is_unknown seen)
    (ap Some (c.as_str-in-Int.ensures.value ∙ c.in_ok-digits-in-Int.ensures.ok) ∙ ap text_of seen) c.push_text-in-Int.ensures.ok

pub returns-in-Bool-clause-ok : goal.returns-in-Bool-clause-ok
returns-in-Bool-clause-ok c =
    let seen = sym (ap tree_of c.in-Bool.is ∙ tree_of-Bool c.in-Bool.truth) in
    pushed-as c.push_text-in-Bool.result _ _ (text c.truth_name.result.now) (tree_of c.args.value.now) (ap is_unknown seen)
    (ap Some c.truth_name.ensures ∙ ap text_of seen) c.push_text-in-Bool.ensures.ok

pub returns-in-Unknown-clause-ok : goal.returns-in-Unknown-clause-ok
returns-in-Unknown-clause-ok c = λ ts h.
    unknown-joins ts ∙ ap (λ t. joined_value (item_behind ts t)) (sym (ap tree_of c.in-Unknown.is ∙ tree_of-Unknown))

pub returns-in-Null-clause-ok : goal.returns-in-Null-clause-ok
returns-in-Null-clause-ok c = λ ts h. let fit = misfit-of c.args.value.now c.in-Null.is in c.push_misfit.ensures ts _ fit.0 fit.1 h
