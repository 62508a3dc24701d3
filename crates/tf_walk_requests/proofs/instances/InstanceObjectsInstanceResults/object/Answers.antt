use Rattle.std.proofs.Common.{◌≡◌, ◌∙◌, IfOk, map, sym, subst}
use Rattle.tf_config_address.specs.ObjectId.{instance_key_of}
use Rattle.tf_config_names.specs.Table.{names_in}
use Rattle.tf_walk_requests.specs.Asks.{results_with}
use Rattle.tf_plan_data.specs.Action.{action_of}
use Rattle.tf_state_data.specs.State.{state_of}
use Rattle.tf_value_data.specs.Tree.{Tree, tree_of}
use Rattle.tf_walk_action.proofs.Lookup.{object-here, object-later, object-none}
use Rattle.tf_walk_requests.proofs.instances.InstanceObjectsInstanceResults.object.Goals as goal

pub returns-then-applies_to : goal.returns-then-applies_to
returns-then-applies_to g c =
    let s = c.args.self.now in
    let results = results_with (g.R.Results.objects s.results.now) in
    let key = instance_key_of c.args.key.now in
    let here = object-here (names_in s.names.now) (state_of s.prior.now) (map action_of s.actions.now) results s.before.now c.loop-action.action-index c.args.place key c.loop-action-test.true (sym c.applies_to.ensures ∙ c.if-applies_to.true) in
    subst (λ (t : Tree). IfOk c.object.result (λ value. tree_of value ≡ t)) (sym here ∙ c.loop-action.invariant) c.object.ensures

pub loop-action-preserved : goal.loop-action-preserved
loop-action-preserved g c =
    let s = c.args.self.now in
    let results = results_with (g.R.Results.objects s.results.now) in
    let key = instance_key_of c.args.key.now in
    sym (object-later (names_in s.names.now) (state_of s.prior.now) (map action_of s.actions.now) results s.before.now c.loop-action.action-index c.args.place key c.loop-action-test.true (sym c.applies_to.ensures ∙ c.if-applies_to.false))
    ∙ c.loop-action.invariant

pub returns : goal.returns
returns g c =
    let s = c.args.self.now in
    let none = object-none (names_in s.names.now) (state_of s.prior.now) (map action_of s.actions.now) (results_with (g.R.Results.objects s.results.now)) s.before.now c.loop-action.action-index c.args.place (instance_key_of c.args.key.now) c.loop-action-test.false in
    subst (λ (t : Tree). IfOk c.prior_object.result (λ value. tree_of value ≡ t)) (none ∙ c.loop-action.invariant) c.prior_object.ensures
