use Rattle.std.proofs.Common.{sym, ◌∙◌, arith}
use Rattle.tf_config_names.proofs.Tables.{drop_next}
use Rattle.tf_config_names.proofs.Tests.{rests_more, rests_fail, rests_none}
use Rattle.tf_config_names.specs.KnownNames.{declared_of, knows}
use Rattle.tf_expr_syntax.specs.TemplateNames.{reference_of}
use Rattle.tf_config_names.proofs.known_names.Known.knows_all.Goals as goal

pub loop-reference-preserved : goal.loop-reference-preserved
loop-reference-preserved c =
    let all = c.args.references.now in
    let i = c.loop-reference.reference-index in
    rests_more (knows (declared_of c.args.self.now) c.args.context) (λ r. reference_of r.now) all i c.reference-item.result (drop_next all i c.reference-item.result c.loop-reference-test.true c.reference-item.is)
    (rw (← c.as_str.ensures.value, ← c.as_str-in-loop-reference.ensures.value) (sym c.knows.ensures ∙ c.if-not-knows.false)) c.loop-reference.invariant

pub returns-then-not-knows : goal.returns-then-not-knows
returns-then-not-knows c =
    let all = c.args.references.now in
    let i = c.loop-reference.reference-index in
    rests_fail (knows (declared_of c.args.self.now) c.args.context) (λ r. reference_of r.now) all i c.reference-item.result (drop_next all i c.reference-item.result c.loop-reference-test.true c.reference-item.is)
    (rw (← c.as_str.ensures.value, ← c.as_str-in-loop-reference.ensures.value) (sym c.knows.ensures ∙ c.if-not-knows.true)) c.loop-reference.invariant

pub returns : goal.returns
returns c = rests_none (knows (declared_of c.args.self.now) c.args.context) (λ r. reference_of r.now) c.args.references.now c.loop-reference.reference-index (omega arith) c.loop-reference.invariant
