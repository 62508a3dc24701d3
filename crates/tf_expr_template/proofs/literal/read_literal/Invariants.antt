use Rattle.std.proofs.Common.{◌≤◌, length, string_bytes}
use Rattle.tf_expr_template.specs.Literal.{Literal}
use Rattle.tf_expr_template.proofs.literal.read_literal.Given as goal

abbrev pub invariant-loop-read : goal.invariant-loop-read
invariant-loop-read l = Literal l.quoted (string_bytes l.read) l.fn.text l.rest.text.now × (length l.rest.text.now ≤ length l.fn.text)

abbrev pub decreases-loop-read : goal.decreases-loop-read
decreases-loop-read l = length l.rest.text.now
