use Rattle.std.proofs.Common.{◌<◌, length, arith}
use Rattle.std.proofs.lemmas.Bool.Decides.{nat_tests}
use Rattle.tf_expr_template.proofs.Pieces.{piece_from}
use Rattle.tf_expr_template.proofs.literal.step_at.Goals as goal

pub returns-in-36-clause-value : goal.returns-in-36-clause-value
returns-in-36-clause-value c =
    let some : 0 < length c.args.text.now = grind (arith, nat_tests) in
    let e = piece_from c.args.quoted c.args.text.now some in
    let v = c.dollar.ensures.value c.args.quoted in
    cc

pub returns-in-37-clause-value : goal.returns-in-37-clause-value
returns-in-37-clause-value c =
    let some : 0 < length c.args.text.now = grind (arith, nat_tests) in
    let e = piece_from c.args.quoted c.args.text.now some in
    let v = c.percent.ensures.value c.args.quoted in
    cc
