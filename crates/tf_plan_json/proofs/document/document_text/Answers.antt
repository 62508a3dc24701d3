use Rattle.std.proofs.Common.{◌≡◌, ◌∙◌, [], Some, ap, map, subst}
use Rattle.serde_json.specs.Events.{SendsValue}
use Rattle.std.specs.List.{flat_map}
use Rattle.tf_plan_changes.specs.Changes.{changes}
use Rattle.tf_plan_data.specs.Plan.{plan_of}
use Rattle.tf_plan_json.proofs.Floats.{plan-whole}
use Rattle.tf_plan_json.specs.Document.{change_data, document_data, output_changes_data, plan_data}
use Rattle.tf_plan_json.specs.Prior.{objects_of, prior_of, some_prior}
use Rattle.tf_plan_json.specs.Views.{entry_view, stored_view}
use Rattle.tf_plan_outputs.specs.Views.{change_view}
use Rattle.tf_state_data.specs.State.{outputs_of}
use Rattle.tf_plan_json.proofs.document.document_text.Goals as goal

pub returns-in-Ok : goal.returns-in-Ok
returns-in-Ok c =
    let plan = plan_of c.args.plan.now in
    let named = map change_view c.args.changes.items in
    let shown = output_changes_data (map change_view c.as_slice.result.now) in
    let sent = c.in-Ok.ensures.tree in
    let given = outputs_of c.outputs.result.now.entries in
    let listed = map stored_view c.as_slice-2.result.now in
    let sliced : shown ≡ output_changes_data named = ap (λ cs. output_changes_data (map change_view cs)) c.as_slice.ensures.value in
    let made : map entry_view c.as_slice-3.result.now ≡ map (change_data plan) (changes plan.late plan.actions) = ap (map entry_view) c.as_slice-3.ensures.value ∙ c.in_ok-entries.ensures in
    let stored : listed ≡ flat_map objects_of plan.prior.resources = ap (map stored_view) c.as_slice-2.ensures.value ∙ c.in_ok-objects.ensures in
    let prior : some_prior given listed ≡ prior_of plan.prior = ap (λ o. some_prior o listed) c.outputs.ensures ∙ ap (some_prior plan.prior.outputs) stored in
    let all : document_data plan.variables shown (some_prior given listed) (map entry_view c.as_slice-3.result.now) ≡ plan_data plan named =
    ap (document_data plan.variables shown (some_prior given listed)) made
    ∙ ap (λ p. document_data plan.variables shown p (map (change_data plan) (changes plan.late plan.actions))) prior
    ∙ ap (λ o. document_data plan.variables o (prior_of plan.prior) (map (change_data plan) (changes plan.late plan.actions))) sliced in
    sent.2 (plan_data plan named) (subst (λ d. SendsValue d (Some []) sent.0) all sent.1) (plan-whole plan named)
