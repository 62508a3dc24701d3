use Rattle.std.proofs.Common.{◌∙◌, List, map, subst, arith}
use Rattle.std.proofs.lemmas.List.{take_all}
use Rattle.std.specs.List.{AllByRecursion}
use Rattle.tf_plan_data.specs.Action.{action_of}
use Rattle.tf_plan_data.specs.declared.action.Action.{Action}
use Rattle.tf_walk_buffers.proofs.Asking.{asked-next}
use Rattle.tf_walk_buffers.specs.Needed.{IsAsked}
use Rattle.tf_walk_buffers.proofs.needed.asked_for.Goals as goal

pub loop-action-preserved : goal.loop-action-preserved
loop-action-preserved c =
    let l = c.loop-action in
    let action = c.action-item.result in
    record {
      long = c.ask.ensures.length ∙ l.invariant.long;
      asked = asked-next action_of l.asked c.ask.new.asked c.args.actions.now l.action-index action c.loop-action-test.true c.action-item.is c.ask.ensures.length c.ask.ensures.kept l.invariant.asked c.ask.ensures.asked;
    }

pub returns-clause-asked : goal.returns-clause-asked
returns-clause-asked c =
    let l = c.loop-action in
    subst (λ (xs : List Action). AllByRecursion (IsAsked l.asked) (map action_of xs)) (take_all l.action-index c.args.actions.now (omega arith)) l.invariant.asked
