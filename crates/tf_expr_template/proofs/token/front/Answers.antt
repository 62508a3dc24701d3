use Rattle.std.proofs.Common.{◌<◌, get_or, subst}
use Rattle.tf_expr_template.proofs.Cuts.{after_run, after_sign, name_is_ascii, digit_is_ascii}
use Rattle.tf_expr_template.proofs.token.front.Goals as goal

pub returns-then-starts_name-clause-boundary : goal.returns-then-starts_name-clause-boundary
returns-then-starts_name-clause-boundary c = after_run _ name_is_ascii c.args.text.now c.utf8.text c.name_len.result c.name_len.ensures

pub returns-then-is_digit-clause-boundary : goal.returns-then-is_digit-clause-boundary
returns-then-is_digit-clause-boundary c = after_run _ digit_is_ascii c.args.text.now c.utf8.text c.digit_len.result c.digit_len.ensures

pub returns-else-is_digit-clause-boundary : goal.returns-else-is_digit-clause-boundary
returns-else-is_digit-clause-boundary c =
    let s = c.args.text.now in
    let n = c.sign.result.1 in
    let one : 0 < n → (0 < get_or s 0 0) × (get_or s 0 0 < 128) = λ h. subst (λ b. (0 < b) × (b < 128)) c.byte_at-first.ensures (c.sign.ensures.one h) in
    let two : 1 < n → (0 < get_or s 1 0) × (get_or s 1 0 < 128) = λ h. subst (λ b. (0 < b) × (b < 128)) c.byte_at.ensures (c.sign.ensures.two h) in
    after_sign s n c.utf8.text c.sign.ensures.most one two
