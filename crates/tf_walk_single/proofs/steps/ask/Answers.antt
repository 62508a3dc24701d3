use Rattle.std.proofs.Common.{◌∙◌, ℕ, Some, map, option_map, sym, ap}
use Rattle.tf_config_address.specs.ObjectId.{InstanceKeyView}
use Rattle.tf_config_data.specs.Config.{config_of}
use Rattle.tf_config_data.specs.Names.{names_of}
use Rattle.tf_plan_data.specs.Action.{ActionView, action_of}
use Rattle.tf_plan_data.specs.Fits.{IsDeclared}
use Rattle.tf_plan_data.specs.Plan.{plan_of}
use Rattle.tf_plan_data.specs.Served.{IsServedBy}
use Rattle.tf_value_data.specs.Tree.{Tree}
use Rattle.tf_walk_action.proofs.Calling.{read_at, slice_get-map}
use Rattle.tf_walk_action.specs.Asked.{op_of}
use Rattle.tf_walk_action.specs.AskedBy.{asked_by}
use Rattle.tf_walk_action.specs.Outcome.{call_with, comes_of}
use Rattle.tf_walk_action.specs.ResultViews.{action_result_of}
use Rattle.tf_walk_action.proofs.AskedRight.{if_ok-onward}
use Rattle.tf_walk_single.proofs.EndedAction.{ends_asked}
use Rattle.tf_walk_single.proofs.Memos.{memo-good, memo-keeps, memo-stands}
use Rattle.tf_walk_single.proofs.steps.ask.Goals as goal

pub ask_provider-requires-clause-declared : goal.ask_provider-requires-clause-declared
ask_provider-requires-clause-declared g c =
    let plan = c.args.plan.now in
    read_at action_of (IsDeclared (names_of (config_of plan.config))) plan.actions.items c.args.action c.index-actions-action.result c.requires.fits.declared c.requires.within (rw c.as_slice-actions.ensures.value at c.index-actions-action.is)

pub ask_provider-requires-clause-served : goal.ask_provider-requires-clause-served
ask_provider-requires-clause-served g c =
    let ms = map (λ b. (goal.Provider-dyn g (b.vtable, b.value)).meaning b.value) c.args.providers.now in
    read_at action_of (IsServedBy ms) c.args.plan.now.actions.items c.args.action c.index-actions-action.result c.requires.served c.requires.within (rw c.as_slice-actions.ensures.value at c.index-actions-action.is)

pub ask_provider-requires-clause-so_far : goal.ask_provider-requires-clause-so_far
ask_provider-requires-clause-so_far g c =
    memo-stands (plan_of c.args.plan.now) (map (option_map action_result_of) c.args.results.now) c.args.memo.now c.args.action c.requires.own c.requires.memo _ c.seen_before-seen.ensures

pub returns-clause-asked : goal.returns-clause-asked
returns-clause-asked g c =
    let ms = map (λ b. (goal.Provider-dyn g (b.vtable, b.value)).meaning b.value) c.args.providers.now in
    let plan = plan_of c.args.plan.now in
    let ends = map (option_map action_result_of) c.args.results.now in
    let n = c.args.action in
    let a = action_of c.index-actions-action.result in
    let here = slice_get-map action_of c.args.plan.now.actions.items n c.index-actions-action.result c.requires.within (rw c.as_slice-actions.ensures.value at c.index-actions-action.is) in
    let good = memo-good plan ends c.args.memo.now n c.requires.own c.requires.memo _ c.seen_before-seen.ensures in
    if_ok-onward c.ask_provider.result c.ask_provider.ensures.asked
    (λ made asked requests d are run.
    ends_asked ms requests plan n ends a (comes_of ms (asked_by made)) d here good (asked requests are ∙ ap (λ (o : ℕ → InstanceKeyView → Tree). call_with ms requests plan o a) c.seen_before-seen.ensures) run)

pub returns-clause-op : goal.returns-clause-op
returns-clause-op g c =
    let here = slice_get-map action_of c.args.plan.now.actions.items c.args.action c.index-actions-action.result c.requires.within (rw c.as_slice-actions.ensures.value at c.index-actions-action.is) in
    if_ok-onward c.ask_provider.result c.ask_provider.ensures.op
    (λ made asks. if_ok-onward made asks (λ asking same. ap (option_map (λ (a : ActionView). op_of a.step)) here ∙ ap Some (sym same)))

pub returns-clause-memo : goal.returns-clause-memo
returns-clause-memo g c =
    memo-keeps (plan_of c.args.plan.now) (map (option_map action_result_of) c.args.results.now) c.args.memo.now c.args.action c.requires.own c.requires.memo _ c.seen_before-seen.ensures c.ask_provider.new.kept.items c.ask_provider.ensures.so_far
