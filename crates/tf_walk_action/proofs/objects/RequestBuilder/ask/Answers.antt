use Rattle.std.proofs.Common.{◌≡◌, ◌∙◌, Result, sym, ap}
use Rattle.tf_plan_data.specs.Action.{action_of, prior_of, step_of}
use Rattle.tf_plan_data.specs.declared.step.Step.{Step}
use Rattle.tf_config_data.specs.Config.{config_of}
use Rattle.tf_config_data.specs.Names.{meant_at, names_of}
use Rattle.tf_plan_object.specs.Kept.{kept_object}
use Rattle.tf_plan_data.specs.Plan.{plan_of}
use Rattle.tf_walk_action.proofs.AskedRight.{if_ok-weaker}
use Rattle.tf_walk_action.specs.AskedBy.{asked_by}
use Rattle.tf_walk_action.specs.Asked.{AreRequests, Requests, asked_by_step, asked_for, ignored_by, unless_faulty, update_of}
use Rattle.tf_walk_action.specs.declared.prepared_call.PreparedCall.{PreparedCall}
use Rattle.tf_walk_action.specs.declared.action_result.Faulted.{Faulted}
use Rattle.tf_walk_action.proofs.objects.RequestBuilder.ask.Goals as goal

pub returns-in-Update-clause-asked : goal.returns-in-Update-clause-asked
returns-in-Update-clause-asked g c =
    let plan = plan_of c.args.self.now.plan.now in
    let a = action_of c.args.self.now.action.now in
    let objects = g.R.Results.objects c.args.self.now.results.now in
    let names = names_of (config_of c.args.self.now.plan.now.config) in
    let ignored = ignored_by (meant_at names a.resource) in
    let prior = prior_of c.in-Update.prior in
    if_ok-weaker
    (λ (made : Result PreparedCall Faulted). (requests : Requests) → AreRequests plan requests
    → asked_by made ≡ unless_faulty (λ t. update_of a prior (kept_object c.args.self.now.schema.now ignored prior t)) (requests objects a c.args.self.now.schema.now))
    (λ (made : Result PreparedCall Faulted). (requests : Requests) → AreRequests plan requests
    → asked_by made ≡ asked_for names c.args.self.now.schema.now a (requests objects a c.args.self.now.schema.now))
    c.ask_update.result
    (λ made h requests are.
    h requests are ∙ sym (ap (λ (s : Step). asked_by_step ignored c.args.self.now.schema.now a (requests objects a c.args.self.now.schema.now) (step_of s)) c.in-Update.is))
    c.ask_update.ensures.asked
