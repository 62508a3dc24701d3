use Rattle.std.proofs.Common.{◌≡◌, ◌<◌, ◌∙◌, Some, length, map, ap, arith}
use Rattle.std.proofs.lemmas.List.{length-map}
use Rattle.std.specs.Prelude.{slice_get}
use Rattle.tf_plan_data.specs.Action.{action_of}
use Rattle.tf_walk_action.specs.AskedBy.{asked_by}
use Rattle.tf_walk_workers.specs.SeenResult.{seen_result_of}
use Rattle.tf_config_data.specs.Config.{config_of}
use Rattle.tf_config_data.specs.Names.{names_of}
use Rattle.tf_config_names.specs.Table.{names_in}
use Rattle.tf_walk_action.proofs.Calling.{read_at, slice_get-map}
use Rattle.tf_walk_action.specs.Outcome.{comes_of}
use Rattle.tf_plan_data.specs.Fits.{IsDeclared}
use Rattle.tf_plan_data.specs.Plan.{plan_of}
use Rattle.tf_plan_data.specs.Served.{IsServedBy}
use Rattle.tf_state_data.specs.State.{state_of}
use Rattle.tf_walk_workers.proofs.Remembered.{seen_too}
use Rattle.tf_walk_action.proofs.AskedRight.{if_ok-onward}
use Rattle.tf_walk_workers.proofs.Truth.{asked_true}
use Rattle.tf_walk_workers.proofs.steps.WorkerContext.ask_by.Goals as goal

pub ask_provider-requires-clause-declared : goal.ask_provider-requires-clause-declared
ask_provider-requires-clause-declared g c =
    let plan = c.args.self.now.plan.now in
    let below : c.args.action < length plan.actions.items = omega (arith, c.requires.within, plan.counted, plan.actions.ok.0) in
    read_at action_of (IsDeclared (names_of (config_of plan.config))) plan.actions.items c.args.action c.index-actions-action.result c.requires.walk.fits.declared below (rw c.as_slice-actions.ensures.value at c.index-actions-action.is)

pub ask_provider-requires-clause-served : goal.ask_provider-requires-clause-served
ask_provider-requires-clause-served g c =
    let plan = c.args.self.now.plan.now in
    let ms = map (λ b. (goal.Provider-dyn g (b.vtable, b.value)).meaning b.value) c.args.providers.now in
    let below : c.args.action < length plan.actions.items = omega (arith, c.requires.within, plan.counted, plan.actions.ok.0) in
    read_at action_of (IsServedBy ms) plan.actions.items c.args.action c.index-actions-action.result c.requires.walk.served below (rw c.as_slice-actions.ensures.value at c.index-actions-action.is)

pub returns-clause-asked : goal.returns-clause-asked
returns-clause-asked g c =
    let ms = map (λ b. (goal.Provider-dyn g (b.vtable, b.value)).meaning b.value) c.args.providers.now in
    let plan = plan_of c.args.self.now.plan.now in
    let items = c.args.self.now.plan.now.actions.items in
    let before = c.args.memo.now.before in
    let n = c.args.action in
    let seen = seen_too g.N.WalkBrand.meanings g.N.WalkBrand.plan c.args.self.now.plan.now (names_in c.args.self.now.names.now) c.args.memo.now.action n before c.requires.own c.requires.memo.seen in
    let a = action_of c.index-actions-action.result in
    let read = rw c.as_slice-actions.ensures.value at c.index-actions-action.is in
    let below : n < length items = omega (arith, c.requires.within, c.args.self.now.plan.now.counted, c.args.self.now.plan.now.actions.ok.0) in
    let here : slice_get (map action_of items) n ≡ Some a = slice_get-map action_of items n c.index-actions-action.result below read in
    let within : n < length plan.actions = omega (arith, below, length-map items action_of) in
    if_ok-onward c.ask_provider.result c.ask_provider.ensures.asked
    (λ made asked d run.
    asked_true g.N.WalkBrand.meanings ms g.N.WalkBrand.plan plan n (names_in before.names.now) (state_of before.prior.now) (map action_of before.actions.now) (seen_result_of before) a (comes_of ms (asked_by made)) d
    c.requires.walk.meanings c.requires.walk.plan_is (seen.named ∙ c.requires.walk.named) (ap state_of seen.prior) (ap (map action_of) seen.actions)
    within here seen.shows asked run)
