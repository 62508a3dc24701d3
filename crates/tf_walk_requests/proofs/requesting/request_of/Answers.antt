use Rattle.std.proofs.Common.{ℕ, Ok, ap, map, subst, sym}
use Rattle.tf_config_address.specs.ObjectId.{InstanceKeyView}
use Rattle.tf_value_data.specs.Tree.{Tree}
use Rattle.tf_walk_action.specs.SoFar.{ResolvedSoFar}
use Rattle.std.specs.Prelude.{IsTrue}
use Rattle.tf_config_data.specs.Config.{config_of}
use Rattle.tf_config_data.specs.Names.{names_of}
use Rattle.tf_config_names.specs.Table.{names_in}
use Rattle.tf_graph.specs.Digraph.{predecessors_of}
use Rattle.tf_graph.specs.Solutions.{seen_by}
use Rattle.tf_walk_requests.proofs.Asking.{asked_here}
use Rattle.tf_walk_requests.specs.Asks.{results_with}
use Rattle.tf_plan_data.specs.Action.{action_of}
use Rattle.tf_plan_data.specs.Fits.{IsDeclared}
use Rattle.tf_plan_data.specs.Plan.{plan_of}
use Rattle.tf_plan_data.specs.Served.{IsServedBy}
use Rattle.tf_provider_protocol.specs.Verdict.{asks_fully}
use Rattle.tf_walk_action.proofs.Calling.{read_at, seen_objects, slice_get-map}
use Rattle.tf_walk_requests.proofs.requesting.request_of.Goals as goal

pub ask_provider-requires-clause-declared : goal.ask_provider-requires-clause-declared
ask_provider-requires-clause-declared g c =
    let plan = c.args.plan.now in
    read_at action_of (IsDeclared (names_of (config_of plan.config))) plan.actions.items c.args.action c.index-actions-action.result c.requires.fits.declared c.requires.inside (rw c.as_slice-actions.ensures.value at c.index-actions-action.is)

pub ask_provider-requires-clause-served : goal.ask_provider-requires-clause-served
ask_provider-requires-clause-served g c =
    let ms = map (λ b. (goal.Provider-dyn g (b.vtable, b.value)).meaning b.value) c.args.providers.now in
    read_at action_of (IsServedBy ms) c.args.plan.now.actions.items c.args.action c.index-actions-action.result c.requires.served c.requires.inside (rw c.as_slice-actions.ensures.value at c.index-actions-action.is)

pub ask_provider-requires-clause-so_far : goal.ask_provider-requires-clause-so_far
ask_provider-requires-clause-so_far g c = subst (λ (o : ℕ → InstanceKeyView → Tree). ResolvedSoFar (plan_of c.args.plan.now) o c.args.kept.now.items) (sym c.objects_before-objects.ensures) c.requires.so_far

pub returns-in-Ok-clause-so_far : goal.returns-in-Ok-clause-so_far
returns-in-Ok-clause-so_far g c = subst (λ (o : ℕ → InstanceKeyView → Tree). ResolvedSoFar (plan_of c.args.plan.now) o c.ask_provider.new.kept.items) c.objects_before-objects.ensures c.ask_provider.ensures.so_far

pub returns-in-Err-clause-so_far : goal.returns-in-Err-clause-so_far
returns-in-Err-clause-so_far g c = subst (λ (o : ℕ → InstanceKeyView → Tree). ResolvedSoFar (plan_of c.args.plan.now) o c.ask_provider.new.kept.items) c.objects_before-objects.ensures c.ask_provider.ensures.so_far

pub returns-in-Ok-clause-asked : goal.returns-in-Ok-clause-asked
returns-in-Ok-clause-asked g c =
    let ms = map (λ b. (goal.Provider-dyn g (b.vtable, b.value)).meaning b.value) c.args.providers.now in
    let plan = plan_of c.args.plan.now in
    let n = c.args.action in
    let objects = g.R.Results.objects c.args.results.now in
    let a = action_of c.index-actions-action.result in
    let is = rw c.as_slice-actions.ensures.value at c.index-actions-action.is in
    let here = slice_get-map action_of c.args.plan.now.actions.items n c.index-actions-action.result c.requires.inside is in
    let served = read_at action_of (IsServedBy ms) c.args.plan.now.actions.items n c.index-actions-action.result c.requires.served c.requires.inside is in
    asked_here ms (λ q s. IsTrue (asks_fully q s)) plan n objects _ a (Ok c.in-Ok.made) here served c.objects_before-objects.ensures c.in-Ok.ensures.served c.in-Ok.ensures.asked
