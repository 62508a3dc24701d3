use Rattle.std.proofs.Common.{◌≡◌, ◌∙◌, IfOk, map, sym, subst}
use Rattle.tf_plan_data.specs.Action.{action_of}
use Rattle.tf_config_address.specs.ObjectId.{instance_key_of}
use Rattle.tf_config_names.specs.Table.{names_in}
use Rattle.tf_state_data.specs.State.{state_of}
use Rattle.tf_value_data.specs.Tree.{Tree, tree_of}
use Rattle.tf_walk_action.proofs.Lookup.{object-here, object-later, object-none}
use Rattle.tf_walk_action.specs.ResultViews.{action_results_of}
use Rattle.tf_walk_action.specs.Outcome.{done_at}
use Rattle.tf_walk_action.proofs.answered.ResultObjectsResults.object.Goals as goal

pub returns-then-applies_to : goal.returns-then-applies_to
returns-then-applies_to c =
    let s = c.args.self.now in
    let results = done_at (action_results_of s.results.now) in
    let key = instance_key_of c.args.key.now in
    let here = object-here (names_in s.names.now) (state_of s.prior.now) (map action_of s.actions.now) results s.seen.now c.loop-action.action-index c.args.place key c.loop-action-test.true (sym c.applies_to.ensures ∙ c.if-applies_to.true) in
    subst (λ (t : Tree). IfOk c.object_at.result (λ value. tree_of value ≡ t)) (sym here ∙ c.loop-action.invariant) c.object_at.ensures

pub loop-action-preserved : goal.loop-action-preserved
loop-action-preserved c =
    let s = c.args.self.now in
    let results = done_at (action_results_of s.results.now) in
    let key = instance_key_of c.args.key.now in
    sym (object-later (names_in s.names.now) (state_of s.prior.now) (map action_of s.actions.now) results s.seen.now c.loop-action.action-index c.args.place key c.loop-action-test.true (sym c.applies_to.ensures ∙ c.if-applies_to.false))
    ∙ c.loop-action.invariant

pub returns : goal.returns
returns c =
    let s = c.args.self.now in
    let none = object-none (names_in s.names.now) (state_of s.prior.now) (map action_of s.actions.now) (done_at (action_results_of s.results.now)) s.seen.now c.loop-action.action-index c.args.place (instance_key_of c.args.key.now) c.loop-action-test.false in
    subst (λ (t : Tree). IfOk c.prior_object.result (λ value. tree_of value ≡ t)) (none ∙ c.loop-action.invariant) c.prior_object.ensures
