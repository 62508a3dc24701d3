use Rattle.std.proofs.Common.{sym, ◌∙◌, arith}
use Rattle.tf_config_names.proofs.Tables.{drop_next}
use Rattle.tf_config_names.proofs.Tests.{rests_more, rests_fail, rests_none}
use Rattle.tf_plan_planner.specs.Ordered.{is_applied}
use Rattle.tf_plan_data.specs.Action.{action_of}
use Rattle.tf_plan_planner.proofs.ordering.are_applied.Goals as goal

pub loop-action-preserved : goal.loop-action-preserved
loop-action-preserved c =
    let all = c.args.actions.now in
    let i = c.loop-action.action-index in
    rests_more is_applied action_of all i c.action-item.result (drop_next all i c.action-item.result c.loop-action-test.true c.action-item.is)
    (sym c.is_apply.ensures ∙ c.if-not-is_apply.false) c.loop-action.invariant

pub returns-then-not-is_apply : goal.returns-then-not-is_apply
returns-then-not-is_apply c =
    let all = c.args.actions.now in
    let i = c.loop-action.action-index in
    rests_fail is_applied action_of all i c.action-item.result (drop_next all i c.action-item.result c.loop-action-test.true c.action-item.is)
    (sym c.is_apply.ensures ∙ c.if-not-is_apply.true) c.loop-action.invariant

pub returns : goal.returns
returns c = rests_none is_applied action_of c.args.actions.now c.loop-action.action-index (omega arith) c.loop-action.invariant
