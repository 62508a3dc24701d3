use Rattle.std.proofs.Common.{string_bytes, length, sym, ap, arith, length-drop}
use Rattle.tf_expr_template.specs.Literal.{nothing}
use Rattle.tf_expr_template.proofs.Cuts.{before_special}
use Rattle.tf_expr_template.proofs.Pieces.{after_plain, after_piece, run_stops}
use Rattle.tf_expr_template.proofs.Within.{within_more}
use Rattle.tf_expr_template.proofs.literal.read_literal.Goals as goal

pub loop-read-init : goal.loop-read-init
loop-read-init c = (rw c.new-read.ensures.bytes nothing, omega arith)

pub cut-requires : goal.cut-requires
cut-requires c = before_special c.loop-read.rest.text.now c.plain_len.result c.plain_len.ensures

pub step_at-requires : goal.step_at-requires
step_at-requires c = rw c.cut.ensures.back (run_stops c.loop-read.rest.text.now c.plain_len.result c.plain_len.ensures)

pub loop-read-preserved : goal.loop-read-preserved
loop-read-preserved c =
    let plain = after_plain c.args.quoted (string_bytes c.loop-read.read) c.args.text.now c.loop-read.rest.text.now c.plain_len.result c.cut.result.0.now c.cut.result.1.now (string_bytes c.push_str.new.self)
    c.loop-read.invariant.0 c.plain_len.ensures c.cut.ensures.front c.cut.ensures.back c.in_ok-push_str.ensures.bytes in
    let shorter = length-drop c.plain_len.result c.loop-read.rest.text.now in (
      after_piece c.args.quoted (string_bytes c.push_str.new.self) c.in-Stands.bytes.now c.args.text.now c.cut.result.1.now c.in-Stands.next.now (string_bytes c.push_str-in-Stands.new.self)
          plain c.in-Stands.ensures.value c.in_ok-push_str-in-Stands.ensures.bytes,
      omega (arith, c.in-Stands.ensures.shorter, ap length c.cut.ensures.back, shorter, c.loop-read.invariant.1),
    )

pub returns-in-Ends-clause-spelled : goal.returns-in-Ends-clause-spelled
returns-in-Ends-clause-spelled c =
    let plain = after_plain c.args.quoted (string_bytes c.loop-read.read) c.args.text.now c.loop-read.rest.text.now c.plain_len.result c.cut.result.0.now c.cut.result.1.now (string_bytes c.push_str.new.self)
    c.loop-read.invariant.0 c.plain_len.ensures c.cut.ensures.front c.cut.ensures.back c.in_ok-push_str.ensures.bytes in
    (c.cut.result.1.now, plain, sym c.in-Ends.ensures.value)

pub returns-in-Ends-clause-shorter : goal.returns-in-Ends-clause-shorter
returns-in-Ends-clause-shorter c =
    let shorter = length-drop c.plain_len.result c.loop-read.rest.text.now in
    within_more c.in-Ends.end (length c.cut.result.1.now) (length c.args.text.now) (omega (arith, ap length c.cut.ensures.back, shorter, c.loop-read.invariant.1)) c.in-Ends.ensures.shorter
