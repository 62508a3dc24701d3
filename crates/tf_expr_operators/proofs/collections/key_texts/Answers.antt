use Rattle.std.proofs.Common.{◌≡◌, [], sym, ap, ◌∙◌, rules}
use Rattle.std.specs.Map.{keys_of}
use Rattle.tf_value_data.specs.Tree.{text, item, items_view, texts_view, text_items}
use Rattle.tf_value_data.specs.declared.value.Value.{Text}
use Rattle.tf_expr_operators.specs.Answer.{items_behind}
use Rattle.tf_expr_operators.proofs.Rows.{key_items-view, items_behind-nil, items_behind-push}
use Rattle.tf_expr_operators.proofs.Trees.{tree_of-Text}
use Rattle.tf_expr_operators.proofs.collections.key_texts.Goals as goal

pub loop-key-init : goal.loop-key-init
loop-key-init c =
    let es = c.args.entries.now.entries in
    let all : c.into_iter-key-iterator.result ≡ keys_of es = search rules in
    ap (λ xs. items_behind (items_view xs) (text_items (texts_view c.into_iter-key-iterator.result))) c.in_ok-texts.ensures.items
    ∙ ap (λ ks. text_items (texts_view ks)) all
    ∙ key_items-view es

pub loop-key-preserved : goal.loop-key-preserved
loop-key-preserved c =
    let vs = c.loop-key.texts.items in
    let left = text_items (texts_view c.next.new.self) in
    let named = tree_of-Text c.in_ok-text.text ∙ ap text c.in_ok-text.ensures.cases in
    ap (λ xs. items_behind (items_view xs) left) c.in_ok-push.ensures.items
    ∙ items_behind-push vs (Text c.in_ok-text.text) left
    ∙ ap (λ t. items_behind (items_view vs) (item t left)) named
    ∙ ap (λ ks. items_behind (items_view vs) (text_items (texts_view ks))) (sym c.in-Some.ensures.steps)
    ∙ c.loop-key.invariant

pub returns : goal.returns
returns c =
    let vs = c.loop-key.texts.items in
    let none : c.loop-key.key-iterator ≡ [] = search rules in
    sym (items_behind-nil (items_view vs)) ∙ ap (λ ks. items_behind (items_view vs) (text_items (texts_view ks))) (sym none) ∙ c.loop-key.invariant
