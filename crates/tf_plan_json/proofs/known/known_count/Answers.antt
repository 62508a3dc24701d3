use Rattle.std.proofs.Common.{◌∙◌, ap}
use Rattle.std.specs.Int.{from_bool}
use Rattle.tf_plan_json.proofs.Counted.{known_step}
use Rattle.tf_plan_json.proofs.known.known_count.Goals as goal

pub overflow_sub-count : goal.overflow_sub-count
overflow_sub-count c =
    (known_step c.loop-value.value-iterator c.next.new.self (c.in-Some.field-0-0.now, c.in-Some.value.now) c.from-count.result c.loop-value.count _ c.in-Some.ensures.steps (c.from-count.ensures ∙ ap from_bool c.is_unknown.ensures) c.loop-value.invariant).0

pub loop-value-preserved : goal.loop-value-preserved
loop-value-preserved c =
    (known_step c.loop-value.value-iterator c.next.new.self (c.in-Some.field-0-0.now, c.in-Some.value.now) c.from-count.result c.loop-value.count _ c.in-Some.ensures.steps (c.from-count.ensures ∙ ap from_bool c.is_unknown.ensures) c.loop-value.invariant).1
