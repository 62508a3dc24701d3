use Rattle.std.proofs.lemmas.Result.{err_from_is_err_and}
use Rattle.std.proofs.lemmas.List.{length-map}
use Rattle.std.proofs.Common.{◌≡◌, ◌<◌, [], ◌∷◌, ◌++◌, length, get_or, map, string_bytes, sym, ap, ◌∙◌, arith}
use Rattle.tf_value_data.specs.Tree.{no_items, text}
use Rattle.tf_expr_syntax.specs.TemplateTree.{parts_view, terms_view}
use Rattle.tf_expr_operators.specs.Answer.{items_behind, item_behind}
use Rattle.tf_expr_operators.specs.Found.{found_tree}
use Rattle.tf_expr_syntax.specs.Function.{function_named, takes}
use Rattle.tf_expr_operators.specs.Joiner.{answer_so_far}
use Rattle.tf_expr_eval.specs.Meaning.{and_then, between, called, count, laid, meanings, stands_alone, woven}
use Rattle.tf_expr_eval.proofs.Alone.{joined_is}
use Rattle.tf_expr_eval.proofs.Finding.{found-fault}
use Rattle.tf_expr_eval.proofs.Rows.{onto-nil, pieces-more, laid-more, behind-nil, gives-along, values-count, called-few, called-fails, called-is}
use Rattle.tf_expr_eval.proofs.evaluation.+eval.Goals as goal

pub join_parts-loop-part-init : goal.join_parts-loop-part-init
join_parts-loop-part-init g t c = ([], onto-nil (between (g.S.Scope.environment c.args.scope.now) (parts_view c.args.parts.now.items)), λ ts h. rw (behind-nil ts) h)

pub join_parts-loop-part-preserved : goal.join_parts-loop-part-preserved
join_parts-loop-part-preserved g t c =
    let i = c.loop-part.part-index in
    let xs = c.deref-part-items.ensures.value in
    let inv = c.loop-part.invariant in
    let done = inv.0 in
    let p = c.part-item.result in
    let within : c.loop-part.part-index < length c.args.parts.now.items = omega (arith, c.loop-part-test.true, ap length xs) in
    let is : c.part-item.result ≡ get_or c.args.parts.now.items c.loop-part.part-index c.part-item.result = ◌∙◌ {b = get_or c.deref-part-items.result.now i c.part-item.result} c.part-item.is (ap (λ ys. get_or ys i c.part-item.result) xs) in
    let v = found_tree c.in_ok-value.value in (
      done ++ (string_bytes p.0, v) ∷ [],
      pieces-more (g.S.Scope.environment c.args.scope.now) c.args.parts.now.items i p (between (g.S.Scope.environment c.args.scope.now) (parts_view c.args.parts.now.items)) done v within is inv.1 c.in_ok-value.ensures,
      λ ts h. rw (← laid-more ts done (string_bytes p.0) v, ← c.value.ensures) (c.in_ok-push_value.ensures.ok (item_behind (items_behind ts (laid done)) (text (string_bytes p.0))) (rw (← c.as_str.ensures.value) (c.in_ok-push_text.ensures.ok (items_behind ts (laid done)) (inv.2 ts h)))),
    )

pub woven_value-returns : goal.woven_value-returns
woven_value-returns g t c =
    let env = g.S.Scope.environment c.args.scope.now in
    let last = c.args.last.now in
    let ps = parts_view c.args.parts.now.items in
    let joined = c.in_ok-join_parts.ensures in
    let before = joined.2 no_items c.new-joiner.ensures in
    let all = c.in_ok-push_text.ensures.ok (laid joined.0) before in
    let total : and_then (between env ps) (λ valued. woven valued last) ≡ answer_so_far c.push_text.new.self =
    ap (λ r. and_then r (λ valued. woven valued last)) {x = between env ps} joined.1 ∙ joined_is env ps last joined.0 (sym {b = stands_alone ps last} c.stand_alone.ensures ∙ c.if-stand_alone.false) joined.1 ∙ sym all in
    c.made.ensures.or_no_memory (and_then (between env ps) (λ valued. woven valued last)) (gives-along (and_then (between env ps) (λ valued. woven valued last)) (answer_so_far c.push_text.new.self) c.finish.result total c.finish.ensures)

pub call_value-returns-then-not-takes : goal.call_value-returns-then-not-takes
call_value-returns-then-not-takes g t c =
    called-few c.in-Some.function (function_named c.args.name.now) c.args.terms.now.items c.len.result (meanings (g.S.Scope.environment c.args.scope.now) (terms_view c.args.terms.now.items)) c.in-Some.ensures (◌∙◌ {a = c.len.result} c.len.ensures c.args.terms.now.ok.0) (sym {b = takes c.in-Some.function c.len.result} c.takes.ensures ∙ c.if-not-takes.true)

pub call_value-returns-in_err-term_values : goal.call_value-returns-in_err-term_values
call_value-returns-in_err-term_values g t c =
    let e = err_from_is_err_and c.from_residual.result c.from_residual.ensures.1 in
    rw (e.1, e.2) (found-fault (called (function_named c.args.name.now) (count (terms_view c.args.terms.now.items)) (meanings (g.S.Scope.environment c.args.scope.now) (terms_view c.args.terms.now.items))) c.in_err-term_values.field-0.0 (called-fails c.in-Some.function (function_named c.args.name.now) c.args.terms.now.items c.len.result (meanings (g.S.Scope.environment c.args.scope.now) (terms_view c.args.terms.now.items)) c.in_err-term_values.field-0.0 c.in-Some.ensures (◌∙◌ {a = c.len.result} c.len.ensures c.args.terms.now.ok.0) (sym {b = takes c.in-Some.function c.len.result} c.takes.ensures ∙ c.if-not-takes.false) c.in_err-term_values.ensures))

pub call_value-call-requires : goal.call_value-call-requires
call_value-call-requires g t c =
    let many : length c.in_ok-term_values.field-0.items ≡ c.len.result = sym (length-map c.in_ok-term_values.field-0.items found_tree) ∙ values-count (g.S.Scope.environment c.args.scope.now) c.args.terms.now.items (map found_tree c.in_ok-term_values.field-0.items) c.in_ok-term_values.ensures ∙ sym (◌∙◌ {a = c.len.result} c.len.ensures c.args.terms.now.ok.0) in
    rw (c.in_ok-term_values.field-0.ok.0, many, ← c.takes.ensures) c.if-not-takes.false

pub call_value-returns : goal.call_value-returns
call_value-returns g t c =
    let is = called-is c.in-Some.function (function_named c.args.name.now) c.args.terms.now.items c.len.result (meanings (g.S.Scope.environment c.args.scope.now) (terms_view c.args.terms.now.items)) (map found_tree c.in_ok-term_values.field-0.items) c.in-Some.ensures (◌∙◌ {a = c.len.result} c.len.ensures c.args.terms.now.ok.0) (sym {b = takes c.in-Some.function c.len.result} c.takes.ensures ∙ c.if-not-takes.false) c.in_ok-term_values.ensures in
    c.made.ensures.or_no_memory (called (function_named c.args.name.now) (count (terms_view c.args.terms.now.items)) (meanings (g.S.Scope.environment c.args.scope.now) (terms_view c.args.terms.now.items))) (rw is c.call.ensures)
