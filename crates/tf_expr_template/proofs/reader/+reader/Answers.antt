use Rattle.std.proofs.Common.{◌^◌, true, ◌≡◌, ℕ, ◌+◌, ◌<◌, ◌≤◌, List, length, string_bytes, refl, sym, ap, ◌∙◌, subst, arith}
use Rattle.std.proofs.lemmas.Result.{err_from_is_err_and}
use Rattle.tf_expr_template.specs.Reads.{Fails, Holds, begins, binding}
use Rattle.tf_expr_template.specs.Spelling.{Spells, SpellsParts}
use Rattle.tf_expr_template.specs.Token.{token_kind, after_token}
use Rattle.tf_expr_template.specs.Steps.{EndsWithin, end_of}
use Rattle.tf_expr_template.specs.declared.token.TokenKind.TheVariants.{CloseParen, CloseBracket, Colon}
use Rattle.tf_expr_syntax.specs.TemplateTree.{Parts, Woven, quoted, conditional, level_of, parts_depth, tree_depth, view}
use Rattle.tf_expr_template.specs.Word.{decimal}
use Rattle.tf_expr_template.proofs.Begun.{at_quote, at_group, at_binary, at_question, at_bracket, stops_at, made_answers, number_fits, deep_some}
use Rattle.tf_expr_template.proofs.Growing.{Fails-below, spells_begins, level_some, first_fails, first_grows, next_fails, climbs, climbed}
use Rattle.tf_expr_template.proofs.Rowing.{Pushed, row_closed, row_closed_only, row_fails, part_closed, part_closed_only, part_refused, part_more, deepest_is}
use Rattle.tf_expr_template.proofs.Weaving.{weave_closed, weave_closed_only, weave_wrong, weave_fails, brace_missing, weave_more, template_made}
use Rattle.tf_expr_template.proofs.reader.+reader.Goals as goal
use Rattle.tf_expr_template.proofs.reader.+reader.Goals.{list-In_ok-push}

pub expression-returns-in_err-left-clause-complete : goal.expression-returns-in_err-left-clause-complete
expression-returns-in_err-left-clause-complete t c =
    λ tree rest h k z.
    let e = err_from_is_err_and c.from_residual.result c.from_residual.ensures.1 in
    rw (e.1, e.2) (first_fails c.args.least c.args.budget c.args.text.now c.in_err-left.field-0.0 c.in_err-left.ensures.complete tree rest h k z)

pub expression-loop-alloc-init : goal.expression-loop-alloc-init
expression-loop-alloc-init t c =
    let s = c.in_ok-left.ensures.sound in
    record {
      spelled = s.0.0;
      depth_is = s.0.1;
      room = s.0.2;
      bound = omega (arith, s.1);
      shorter = c.in_ok-left.ensures.shorter;
      grows = first_grows c.args.least c.args.budget c.args.text.now (view c.in_ok-left.left.term) c.in_ok-left.left.rest.now c.in_ok-left.ensures.complete;
    }

pub expression-returns-in_err-left-2-clause-complete : goal.expression-returns-in_err-left-2-clause-complete
expression-returns-in_err-left-2-clause-complete t c =
    λ tree rest h k z.
    let e = err_from_is_err_and c.from_residual-in_err-left-2.result c.from_residual-in_err-left-2.ensures.1 in
    let bound : c.binding.result ≡ binding (token_kind c.loop-alloc.left.rest.now) = c.binding.ensures ∙ ap binding c.next_token.ensures.kind in
    rw (e.1, e.2) (next_fails c.args.least c.args.budget c.args.text.now c.loop-alloc.left c.loop-alloc.invariant (rw bound at c.loop-alloc-test.true) c.in_err-left-2.field-0.0 c.in_err-left-2.ensures.complete tree rest h k z)

pub expression-loop-alloc-preserved : goal.expression-loop-alloc-preserved
expression-loop-alloc-preserved t c =
    let bound : c.binding.result ≡ binding (token_kind c.loop-alloc.left.rest.now) = c.binding.ensures ∙ ap binding c.next_token.ensures.kind in
    climbs c.args.least c.args.budget c.args.text.now c.loop-alloc.left c.loop-alloc.invariant (rw bound at c.loop-alloc-test.true) c.in_ok-left-2.left
    c.in_ok-left-2.ensures.sound c.in_ok-left-2.ensures.shorter c.in_ok-left-2.ensures.complete

pub expression-returns-clause-complete : goal.expression-returns-clause-complete
expression-returns-clause-complete t c =
    let bound : c.binding.result ≡ binding (token_kind c.loop-alloc.left.rest.now) = c.binding.ensures ∙ ap binding c.next_token.ensures.kind in
    climbed c.args.least c.args.budget c.args.text.now c.loop-alloc.left c.loop-alloc.invariant (rw bound at c.loop-alloc-test.false)

-- one part was read and put behind those so far
part_pushed : (t : ℕ) (c : list-In_ok-push t) → Pushed c.args.bracket c.loop-rest.rest.text.now c.loop-rest.terms.items c.in_ok-found.found c.push.new.self.items
part_pushed t c = record {
  goes_on = λ k. c.closes.ensures.no c.if-closes.false (c.next_token-token.ensures.kind ∙ k);
  spelled = c.in_ok-found.ensures.sound.0.0;
  only = c.in_ok-found.ensures.complete;
  put = c.in_ok-push.ensures.items;
}

pub list-returns-then-closes-clause-sound : goal.list-returns-then-closes-clause-sound
list-returns-then-closes-clause-sound t c =
    let inv = c.loop-rest.invariant in
    let kind = sym c.next_token-token.ensures.kind ∙ c.closes.ensures.yes c.if-closes.true in (
      row_closed c.args.bracket c.args.budget c.args.text.now c.loop-rest.terms.items c.loop-rest.depth c.loop-rest.rest.text.now inv c.next_token-token.result.rest.now kind (sym c.next_token-token.ensures.rest),
      inv.depth_is,
      inv.room,
    )

pub list-returns-then-closes-clause-complete : goal.list-returns-then-closes-clause-complete
list-returns-then-closes-clause-complete t c =
    let kind = sym c.next_token-token.ensures.kind ∙ c.closes.ensures.yes c.if-closes.true in
    λ ts rest h.
    let found = row_closed_only c.args.bracket c.args.budget c.args.text.now c.loop-rest.terms.items c.loop-rest.depth c.loop-rest.rest.text.now c.loop-rest.invariant kind ts rest h in
    (found.0, c.next_token-token.ensures.rest ∙ found.1)

pub list-returns-in_err-found-clause-complete : goal.list-returns-in_err-found-clause-complete
list-returns-in_err-found-clause-complete t c =
    λ ts rest h.
    let e = err_from_is_err_and c.from_residual.result c.from_residual.ensures.1 in
    rw (e.1, e.2) (row_fails c.args.bracket c.args.budget c.args.text.now c.loop-rest.terms.items c.loop-rest.depth c.loop-rest.rest.text.now c.loop-rest.invariant
    (λ k. c.closes.ensures.no c.if-closes.false (c.next_token-token.ensures.kind ∙ k)) c.in_err-found.field-0.0 c.in_err-found.ensures.complete ts rest h)

pub list-returns-then-closes-2-clause-sound : goal.list-returns-then-closes-2-clause-sound
list-returns-then-closes-2-clause-sound t c =
    let inv = c.loop-rest.invariant in
    let s = c.in_ok-found.ensures.sound in
    let pushed = part_pushed t (goal.at.list-returns-then-closes-2-clause-sound t c).In_ok-push in
    let kind = sym c.next_token-token-in-loop-rest.ensures.kind ∙ c.closes-in-loop-rest.ensures.yes c.if-closes-2.true in (
      part_closed c.args.bracket c.args.budget c.args.text.now c.loop-rest.terms.items c.loop-rest.depth c.loop-rest.rest.text.now inv c.in_ok-found.found c.push.new.self.items pushed
          c.next_token-token-in-loop-rest.result.rest.now kind (sym c.next_token-token-in-loop-rest.ensures.rest),
      deepest_is c.args.bracket c.args.budget c.args.text.now c.loop-rest.terms.items c.loop-rest.depth c.loop-rest.rest.text.now inv c.in_ok-found.found c.push.new.self.items pushed
          c.max-depth.result s.0.1 c.max-depth.ensures,
      omega (arith, inv.room, s.0.2, c.max-depth.ensures),
    )

pub list-returns-then-closes-2-clause-complete : goal.list-returns-then-closes-2-clause-complete
list-returns-then-closes-2-clause-complete t c =
    let pushed = part_pushed t (goal.at.list-returns-then-closes-2-clause-complete t c).In_ok-push in
    let kind = sym c.next_token-token-in-loop-rest.ensures.kind ∙ c.closes-in-loop-rest.ensures.yes c.if-closes-2.true in
    λ ts rest h.
    let found = part_closed_only c.args.bracket c.args.budget c.args.text.now c.loop-rest.terms.items c.loop-rest.depth c.loop-rest.rest.text.now c.loop-rest.invariant
    c.in_ok-found.found c.push.new.self.items pushed kind ts rest h in
    (found.0, c.next_token-token-in-loop-rest.ensures.rest ∙ found.1)

pub list-returns-in_default : goal.list-returns-in_default
list-returns-in_default t c =
    let pushed = part_pushed t (goal.at.list-returns-in_default t c).In_ok-push in
    record {
      sound = tt;
      shorter = tt;
      complete = λ ts rest h. absurd (part_refused c.args.bracket c.args.budget c.args.text.now c.loop-rest.terms.items c.loop-rest.depth c.loop-rest.rest.text.now c.loop-rest.invariant
          c.in_ok-found.found c.push.new.self.items pushed
          (λ k. c.closes-in-loop-rest.ensures.no c.if-closes-2.false (c.next_token-token-in-loop-rest.ensures.kind ∙ k))
          (λ k. c.in_default.not-Comma (c.next_token-token-in-loop-rest.ensures.kind ∙ k)) ts rest h);
    }

pub list-loop-rest-preserved : goal.list-loop-rest-preserved
list-loop-rest-preserved t c =
    let s = c.in_ok-found.ensures.sound in
    let pushed = part_pushed t (goal.at.list-loop-rest-preserved t c).In_ok-push in
    part_more c.args.bracket c.args.budget c.args.text.now c.loop-rest.terms.items c.loop-rest.depth c.loop-rest.rest.text.now c.loop-rest.invariant
    c.in_ok-found.found c.push.new.self.items pushed c.next_token-token-in-loop-rest.result.rest.now c.max-depth.result
    (sym c.next_token-token-in-loop-rest.ensures.kind ∙ c.in-Comma.is) (sym c.next_token-token-in-loop-rest.ensures.rest) s.0.1 s.0.2 c.max-depth.ensures
    (omega (arith, c.loop-rest.invariant.shorter, c.in_ok-found.ensures.shorter, c.next_token-token-in-loop-rest.ensures.shorter))

pub operand-returns-in_err-read-in-Quote-clause-complete : goal.operand-returns-in_err-read-in-Quote-clause-complete
operand-returns-in_err-read-in-Quote-clause-complete t c =
    λ tree rest o h z.
    let q = at_quote tree c.args.text.now rest o h (sym c.next_token-token.ensures.kind ∙ c.in-Quote.is) in
    let e = err_from_is_err_and c.from_residual.result c.from_residual.ensures.1 in
    let spelled = subst (λ x. SpellsParts true q.parts q.last x rest) (sym c.next_token-token.ensures.rest) q.spelled in
    rw (e.1, e.2) (Fails-below c.in_err-read-in-Quote.field-0.0 c.args.budget (parts_depth q.parts) (tree_depth tree) q.deeper (c.in_err-read-in-Quote.ensures.complete (q.parts, q.last) rest spelled))

pub operand-returns-in_err-inner-in-OpenParen-clause-complete : goal.operand-returns-in_err-inner-in-OpenParen-clause-complete
operand-returns-in_err-inner-in-OpenParen-clause-complete t c =
    λ tree rest o h z.
    let g = at_group tree c.args.text.now rest o h (sym c.next_token-token.ensures.kind ∙ c.in-OpenParen.is) in
    let e = err_from_is_err_and c.from_residual-in_err-inner-in-OpenParen.result c.from_residual-in_err-inner-in-OpenParen.ensures.1 in
    let spelled = subst (λ x. Spells g.u x g.q) (sym c.next_token-token.ensures.rest) g.spelled in
    rw (e.1, e.2) (Fails-below c.in_err-inner-in-OpenParen.field-0.0 c.args.budget (tree_depth g.u) (tree_depth tree) g.deeper (c.in_err-inner-in-OpenParen.ensures.complete g.u g.q spelled (level_some g.u) (stops_at CloseParen g.q rest refl g.close)))

pub operand-returns-in_ok-read-in-Quote-clause-complete : goal.operand-returns-in_ok-read-in-Quote-clause-complete
operand-returns-in_ok-read-in-Quote-clause-complete t c =
    λ tree rest o h z.
    let q = at_quote tree c.args.text.now rest o h (sym c.next_token-token.ensures.kind ∙ c.in-Quote.is) in
    let spelled = subst (λ x. SpellsParts true q.parts q.last x rest) (sym c.next_token-token.ensures.rest) q.spelled in
    let x = c.in_ok-read-in-Quote.ensures.complete (q.parts, q.last) rest spelled in
    (c.quoted.ensures.term ∙ ap (λ (w : Woven). quoted w.0 w.1) x.0 ∙ sym q.is, c.quoted.ensures.rest ∙ x.1)

pub operator-returns-in_err-right-in-Binary-clause-complete : goal.operator-returns-in_err-right-in-Binary-clause-complete
operator-returns-in_err-right-in-Binary-clause-complete t c =
    λ tree rest h z.
    let op = c.in-Binary.operator in
    let l = view c.args.left.term in
    let j = at_binary op l c.args.left.rest.now tree rest h (sym c.next_token-token.ensures.kind ∙ c.in-Binary.is) in
    let e = err_from_is_err_and c.from_residual.result c.from_residual.ensures.1 in
    let stops : binding (token_kind rest) < level_of op + 1 = let k = subst (λ x. Holds x rest) j.is z in omega (arith, k) in
    let spelled = subst (λ x. Spells j.r x rest) (sym c.next_token-token.ensures.rest) j.spelled in
    rw (e.1, e.2) (Fails-below c.in_err-right-in-Binary.field-0.0 c.args.budget (tree_depth j.r) (tree_depth tree) j.deeper (c.in_err-right-in-Binary.ensures.complete j.r rest spelled (omega (arith, j.tighter, c.level-in-Binary.ensures)) (omega (arith, stops, c.level-in-Binary.ensures))))

pub operator-returns-in_err-yes-in-Question-clause-complete : goal.operator-returns-in_err-yes-in-Question-clause-complete
operator-returns-in_err-yes-in-Question-clause-complete t c =
    λ tree rest h z.
    let x = at_question (view c.args.left.term) c.args.left.rest.now tree rest h (sym c.next_token-token.ensures.kind ∙ c.in-Question.is) in
    let e = err_from_is_err_and c.from_residual-in_err-yes-in-Question.result c.from_residual-in_err-yes-in-Question.ensures.1 in
    let spelled = subst (λ y. Spells x.a y x.q) (sym c.next_token-token.ensures.rest) x.yes in
    rw (e.1, e.2) (Fails-below c.in_err-yes-in-Question.field-0.0 c.args.budget (tree_depth x.a) (tree_depth tree) x.deeper_yes (c.in_err-yes-in-Question.ensures.complete x.a x.q spelled (level_some x.a) (stops_at Colon x.q x.u refl x.colon)))

pub operator-returns-in_err-pass_colon-in-Question-clause-complete : goal.operator-returns-in_err-pass_colon-in-Question-clause-complete
operator-returns-in_err-pass_colon-in-Question-clause-complete t c =
    λ tree rest h z.
    let x = at_question (view c.args.left.term) c.args.left.rest.now tree rest h (sym c.next_token-token.ensures.kind ∙ c.in-Question.is) in
    let spelled = subst (λ y. Spells x.a y x.q) (sym c.next_token-token.ensures.rest) x.yes in
    let f = c.in_ok-yes-in-Question.ensures.complete x.a x.q spelled (level_some x.a) (stops_at Colon x.q x.u refl x.colon) in
    absurd (c.in_err-pass_colon-in-Question.ensures.value (ap token_kind f.1 ∙ x.colon.kind_is))

pub operator-returns-in_err-no-in-Question-clause-complete : goal.operator-returns-in_err-no-in-Question-clause-complete
operator-returns-in_err-no-in-Question-clause-complete t c =
    λ tree rest h z.
    let x = at_question (view c.args.left.term) c.args.left.rest.now tree rest h (sym c.next_token-token.ensures.kind ∙ c.in-Question.is) in
    let e = err_from_is_err_and c.from_residual-in_err-no-in-Question.result c.from_residual-in_err-no-in-Question.ensures.1 in
    let spelled = subst (λ y. Spells x.a y x.q) (sym c.next_token-token.ensures.rest) x.yes in
    let f = c.in_ok-yes-in-Question.ensures.complete x.a x.q spelled (level_some x.a) (stops_at Colon x.q x.u refl x.colon) in
    let place : x.u ≡ c.in_ok-pass_colon-in-Question.field-0.now = sym x.colon.after_is ∙ ap after_token (sym f.1) ∙ sym c.in_ok-pass_colon-in-Question.ensures.value.1 in
    let other = subst (λ y. Spells x.b y rest) place x.no in
    let stops = subst (λ y. Holds y rest) x.is z in
    rw (e.1, e.2) (Fails-below c.in_err-no-in-Question.field-0.0 c.args.budget (tree_depth x.b) (tree_depth tree) x.deeper_no (c.in_err-no-in-Question.ensures.complete x.b rest other (level_some x.b) stops))

pub operator-returns-in-Question-clause-complete : goal.operator-returns-in-Question-clause-complete
operator-returns-in-Question-clause-complete t c =
    λ tree rest h z.
    let l = view c.args.left.term in
    let x = at_question l c.args.left.rest.now tree rest h (sym c.next_token-token.ensures.kind ∙ c.in-Question.is) in
    let spelled = subst (λ y. Spells x.a y x.q) (sym c.next_token-token.ensures.rest) x.yes in
    let f = c.in_ok-yes-in-Question.ensures.complete x.a x.q spelled (level_some x.a) (stops_at Colon x.q x.u refl x.colon) in
    let place : x.u ≡ c.in_ok-pass_colon-in-Question.field-0.now = sym x.colon.after_is ∙ ap after_token (sym f.1) ∙ sym c.in_ok-pass_colon-in-Question.ensures.value.1 in
    let other = subst (λ y. Spells x.b y rest) place x.no in
    let stops = subst (λ y. Holds y rest) x.is z in
    let g = c.in_ok-no-in-Question.ensures.complete x.b rest other (level_some x.b) stops in
    let same = ap (λ y. conditional l y (view c.in_ok-no-in-Question.no.term)) f.0 ∙ ap (λ y. conditional l x.a y) g.0 ∙ sym x.is in
    made_answers (Unit {0}) _ _ _ c.conditional.result c.args.budget tree rest c.conditional.ensures tt same g.1

pub operator-returns-in_err-place-in-OpenBracket-clause-complete : goal.operator-returns-in_err-place-in-OpenBracket-clause-complete
operator-returns-in_err-place-in-OpenBracket-clause-complete t c =
    λ tree rest h z.
    let x = at_bracket (view c.args.left.term) c.args.left.rest.now tree rest h (sym c.next_token-token.ensures.kind ∙ c.in-OpenBracket.is) in
    let e = err_from_is_err_and c.from_residual-in_err-place-in-OpenBracket.result c.from_residual-in_err-place-in-OpenBracket.ensures.1 in
    let spelled = subst (λ y. Spells x.i y x.q) (sym c.next_token-token.ensures.rest) x.spelled in
    rw (e.1, e.2) (Fails-below c.in_err-place-in-OpenBracket.field-0.0 c.args.budget (tree_depth x.i) (tree_depth tree) x.deeper (c.in_err-place-in-OpenBracket.ensures.complete x.i x.q spelled (level_some x.i) (stops_at CloseBracket x.q rest refl x.close)))

pub template-returns-in-Closes-clause-sound : goal.template-returns-in-Closes-clause-sound
template-returns-in-Closes-clause-sound t c =
    let inv = c.loop-parts.invariant in
    let x = c.in_ok-text.ensures.spelled in
    let whole = weave_closed c.args.within c.args.budget c.args.text.now c.loop-parts.parts.items c.loop-parts.depth c.loop-parts.rest.text.now inv
    (string_bytes c.in_ok-text.field-0.text) x.0 x.1 c.in-Closes.rest.now (x.2 ∙ ap end_of c.in-Closes.is) in
    subst (λ (w : Woven). SpellsParts c.args.within w.0 w.1 c.args.text.now c.in-Closes.rest.now × (c.loop-parts.depth ≡ parts_depth w.0) × (c.loop-parts.depth ≤ c.args.budget))
    (sym (template_made c.loop-parts.parts c.in_ok-text.field-0.text)) (whole, inv.depth_is, inv.room)

pub template-returns-in-Closes-clause-shorter : goal.template-returns-in-Closes-clause-shorter
template-returns-in-Closes-clause-shorter t c =
    let k = subst (EndsWithin (length c.loop-parts.rest.text.now)) c.in-Closes.is c.in_ok-text.ensures.shorter in
    omega (arith, k, c.loop-parts.invariant.shorter)

pub template-returns-in-Closes-clause-complete : goal.template-returns-in-Closes-clause-complete
template-returns-in-Closes-clause-complete t c =
    let inv = c.loop-parts.invariant in
    let x = c.in_ok-text.ensures.spelled in
    let bytes = string_bytes c.in_ok-text.field-0.text in
    let pair : Parts → List ℕ → Woven = λ a b. (a, b) in
    λ w rest h.
    let only = weave_closed_only c.args.within c.args.budget c.args.text.now c.loop-parts.parts.items c.loop-parts.depth c.loop-parts.rest.text.now inv
    bytes x.0 x.1 c.in-Closes.rest.now (x.2 ∙ ap end_of c.in-Closes.is) w.0 w.1 rest h in
    (template_made c.loop-parts.parts c.in_ok-text.field-0.text ∙ ap (λ a. pair a bytes) only.0 ∙ ap (λ b. pair w.0 b) only.1, only.2)

pub template-returns-in-Wrong-clause-complete : goal.template-returns-in-Wrong-clause-complete
template-returns-in-Wrong-clause-complete t c =
    let x = c.in_ok-text.ensures.spelled in
    λ w rest h.
    weave_wrong c.args.within c.args.budget c.args.text.now c.loop-parts.parts.items c.loop-parts.depth c.loop-parts.rest.text.now c.loop-parts.invariant
    (string_bytes c.in_ok-text.field-0.text) x.0 x.1 (x.2 ∙ ap end_of c.in-Wrong.is) w.0 w.1 rest h

pub template-returns-in_err-found-in-Opens-clause-complete : goal.template-returns-in_err-found-in-Opens-clause-complete
template-returns-in_err-found-in-Opens-clause-complete t c =
    let x = c.in_ok-text.ensures.spelled in
    let e = err_from_is_err_and c.from_residual-in_err-found-in-Opens.result c.from_residual-in_err-found-in-Opens.ensures.1 in
    λ w rest h.
    rw (e.1, e.2) (weave_fails c.args.within c.args.budget c.args.text.now c.loop-parts.parts.items c.loop-parts.depth c.loop-parts.rest.text.now c.loop-parts.invariant
    (string_bytes c.in_ok-text.field-0.text) x.0 x.1 c.in-Opens.inside.now (x.2 ∙ ap end_of c.in-Opens.is) c.in_err-found-in-Opens.field-0.0 c.in_err-found-in-Opens.ensures.complete w.0 w.1 rest h)

pub template-returns-in_err-after-in-Opens-clause-complete : goal.template-returns-in_err-after-in-Opens-clause-complete
template-returns-in_err-after-in-Opens-clause-complete t c =
    let x = c.in_ok-text.ensures.spelled in
    λ w rest h.
    absurd (brace_missing c.args.within c.args.budget c.args.text.now c.loop-parts.parts.items c.loop-parts.depth c.loop-parts.rest.text.now c.loop-parts.invariant
    (string_bytes c.in_ok-text.field-0.text) x.0 x.1 c.in-Opens.inside.now (x.2 ∙ ap end_of c.in-Opens.is) c.in_ok-found-in-Opens.found c.in_ok-found-in-Opens.ensures.sound.0.0 c.in_ok-found-in-Opens.ensures.complete
    c.in_err-after-in-Opens.ensures.value w.0 w.1 rest h)

pub template-loop-parts-preserved : goal.template-loop-parts-preserved
template-loop-parts-preserved t c =
    let x = c.in_ok-text.ensures.spelled in
    let f = c.in_ok-found-in-Opens.found in
    let s = c.in_ok-found-in-Opens.ensures.sound in
    let k = subst (EndsWithin (length c.loop-parts.rest.text.now)) c.in-Opens.is c.in_ok-text.ensures.shorter in
    weave_more c.args.within c.args.budget c.args.text.now c.loop-parts.parts.items c.loop-parts.depth c.loop-parts.rest.text.now c.loop-parts.invariant
    (string_bytes c.in_ok-text.field-0.text) x.0 x.1 c.in-Opens.inside.now (x.2 ∙ ap end_of c.in-Opens.is) f s.0.0 c.in_ok-found-in-Opens.ensures.complete
    c.in_ok-text.field-0.text c.push.new.self.items c.in_ok-after-in-Opens.after.now c.max-depth.result refl c.in_ok-push-in-Opens.ensures.items
    c.in_ok-after-in-Opens.ensures.value.0 c.in_ok-after-in-Opens.ensures.value.1 s.0.1 s.0.2 c.max-depth.ensures
    (omega (arith, k, c.loop-parts.invariant.shorter, c.in_ok-found-in-Opens.ensures.shorter, c.in_ok-after-in-Opens.ensures.shorter))

pub expression-returns-then-budget-eq0-clause-complete : goal.expression-returns-then-budget-eq0-clause-complete
expression-returns-then-budget-eq0-clause-complete t c = λ tree rest h k z. omega (arith, c.if-budget-eq0.true, deep_some tree)

pub list-returns-then-budget-eq0-clause-complete : goal.list-returns-then-budget-eq0-clause-complete
list-returns-then-budget-eq0-clause-complete t c =
    let kind = c.next_token-token.ensures.kind in
    λ ts rest h.
    row_fails c.args.bracket c.args.budget c.args.text.now c.loop-rest.terms.items c.loop-rest.depth c.loop-rest.rest.text.now c.loop-rest.invariant
    (λ k. c.closes.ensures.no c.if-closes.false (kind ∙ k)) c.last_level.result
    (λ tree p g k z.
    let begun = ap begins kind ∙ spells_begins tree c.loop-rest.rest.text.now p g in
    let deep = c.last_level.ensures begun (λ n. subst (λ w. decimal w < 2 ^ 63) (sym c.next_token-token.ensures.word) (number_fits tree c.loop-rest.rest.text.now p g (sym kind ∙ n))) in
    subst (λ f. Fails f (c.args.budget < tree_depth tree)) (sym deep) (omega (arith, c.if-budget-eq0.true, deep_some tree)))
    ts rest h
