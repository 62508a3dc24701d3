use Rattle.std.proofs.Common.{pos, sym, ap, ◌∙◌, subst}
use Rattle.tf_value_data.specs.Tree.{tree_of}
use Rattle.tf_value_data.proofs.Views.{tree_of-List, tree_of-Map, tree_of-Set}
use Rattle.tf_expr_operators.specs.Answer.{Answers, whole_value}
use Rattle.tf_expr_operators.specs.Functions.{length_value}
use Rattle.tf_expr_operators.proofs.Rows.{items_count-view, entries_count-view, texts_view-length}
use Rattle.tf_expr_operators.proofs.calls.length.Goals as goal

pub returns-in-List : goal.returns-in-List
returns-in-List c =
    let seen = ap tree_of c.in-List.is ∙ tree_of-List c.in-List.items in
    let count = c.len.ensures ∙ c.in-List.items.ok.0 ∙ sym (items_count-view c.in-List.items.items) in
    subst (λ a. Answers a c.count.result) (ap (λ n. whole_value (pos n)) count ∙ sym (ap length_value seen)) c.count.ensures

pub returns-in-Map : goal.returns-in-Map
returns-in-Map c =
    let seen = ap tree_of c.in-Map.is ∙ tree_of-Map c.in-Map.entries in
    let count = c.len-in-Map.ensures.len ∙ sym (entries_count-view c.in-Map.entries.entries) in
    subst (λ a. Answers a c.count-in-Map.result) (ap (λ n. whole_value (pos n)) count ∙ sym (ap length_value seen)) c.count-in-Map.ensures

pub returns-in-Set : goal.returns-in-Set
returns-in-Set c =
    let seen = ap tree_of c.in-Set.is ∙ tree_of-Set c.in-Set.texts in
    let count = c.len-in-Set.ensures.len ∙ sym (texts_view-length c.in-Set.texts.keys) in
    subst (λ a. Answers a c.count-in-Set.result) (ap (λ n. whole_value (pos n)) count ∙ sym (ap length_value seen)) c.count-in-Set.ensures
