use Rattle.std.proofs.Common.{◌∙◌, ◌<◌, ℕ, Bool, List, map, sym, ap, subst}
use Rattle.tf_plan_data.specs.Action.{action_of}
use Rattle.tf_plan_data.specs.declared.action.Action.{Action}
use Rattle.tf_expand_keys.specs.Views.{shapes_of}
use Rattle.tf_expand_keys.specs.declared.shape.InstanceKeys.{InstanceKeys}
use Rattle.tf_expand_keys.specs.declared.table.ModuleParts.{ModuleParts}
use Rattle.tf_graph.specs.NodeSet.{has}
use Rattle.tf_graph.specs.Solutions.{seen_by}
use Rattle.tf_config_names.specs.Table.{names_in}
use Rattle.tf_walk_action.specs.ResultViews.{action_results_of}
use Rattle.tf_walk_action.specs.Outcome.{done_at, objects_seen}
use Rattle.tf_walk_outputs.specs.Outputs.{AreOutputsEnded}
use Rattle.tf_walk_outputs.specs.Buffers.{outputs_in}
use Rattle.tf_walk_outputs.specs.Settled.{AreSettled}
use Rattle.tf_plan_data.specs.Plan.{plan_of}
use Rattle.tf_state_data.specs.State.{outputs_of}
use Rattle.tf_value_data.specs.Tree.{entries_view}
use Rattle.tf_walk_report.specs.Good.{are_good_at}
use Rattle.tf_walk_report.proofs.Complete.{settled-same}
use Rattle.tf_walk_report.proofs.settling.outputs_after.Goals as goal

pub returns : goal.returns
returns c =
    let variables = entries_view c.args.declared.now.variables.now.entries in
    let names = names_in c.args.declared.now.names.now in
    let plan = plan_of c.args.plan.now in
    let done = action_results_of c.args.results.now in
    let settled : ℕ → Bool = has c.settled_by-settled.result.items in
    let kept = outputs_of c.args.settling.kept.entries in
    let outputs = outputs_in c.args.settling.rooms.items in
    let ends = c.renew_outputs-values.new.ends.items in
    let values = outputs_of c.renew_outputs-values.result.entries in
    let are : AreSettled names (has c.noted-good.result.items) settled = subst (λ (xs : List Bool). AreSettled names (has xs) settled) c.deref.ensures.value c.settled_by-settled.ensures in
    record {
      settled = settled;
      are_settled =
          settled-same names (has c.noted-good.result.items) (are_good_at plan.actions done) settled
          (λ n below.
          c.noted-good.ensures.good n (subst (λ (k : ℕ). n < k) (sym c.requires.ready.good) below) ∙ ap (λ (xs : List Action). are_good_at (map action_of xs) done n) c.as_slice.ensures.value) are;
      ended =
          subst (λ (xs : List InstanceKeys). AreOutputsEnded variables names (shapes_of xs) (objects_seen names plan.prior plan.actions (seen_by (done_at done) c.args.settling.seen.items)) settled kept outputs ends values) c.as_slice-3.ensures.value
          (subst (λ (xs : List Action). AreOutputsEnded variables names (shapes_of c.as_slice-3.result.now) (objects_seen names plan.prior (map action_of xs) (seen_by (done_at done) c.args.settling.seen.items)) settled kept outputs ends values) c.as_slice-2.ensures.value
          (subst (λ (xs : List ℕ). AreOutputsEnded variables names (shapes_of c.as_slice-3.result.now) (objects_seen names plan.prior (map action_of c.as_slice-2.result.now) (seen_by (done_at done) xs)) settled kept outputs ends values) c.deref-2.ensures.value
          (subst (λ (xs : List Bool). AreOutputsEnded variables names (shapes_of c.as_slice-3.result.now) (objects_seen names plan.prior (map action_of c.as_slice-2.result.now) (seen_by (done_at done) c.deref-2.result.now)) (has xs) kept outputs ends values) c.deref-3.ensures.value
          (subst (λ (m : ModuleParts). AreOutputsEnded variables names (shapes_of c.as_slice-3.result.now) (objects_seen (names_in m.names.now) plan.prior (map action_of c.as_slice-2.result.now) (seen_by (done_at done) c.deref-2.result.now)) (has c.deref-3.result.now) kept outputs ends values) c.declared.view_is
          c.renew_outputs-values.ensures.ended))));
      stored = c.renew_outputs-values.ensures.stored;
    }
