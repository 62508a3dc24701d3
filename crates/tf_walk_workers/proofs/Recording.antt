-- What a journal's entry and the result of its call say of the call.
use Rattle.std.proofs.Common.{◌≡◌, ◌∙◌, ℕ, [], ◌∷◌, Option, Some, None, refl, sym, ap, ap₂, subst}
use Rattle.atomic_table.specs.Seated.{TableId}
use Rattle.tf_provider.specs.Call.{Call}
use Rattle.tf_provider.specs.Entries.{entry_of}
use Rattle.tf_provider_protocol.specs.Meaning.{Asked, Answer, asked, answered}
use Rattle.tf_provider_protocol.specs.declared.verdict.Verdict.{Verdict}
use Rattle.tf_provider_protocol.specs.declared.verdict.Verdict.TheVariants as verdict
use Rattle.tf_tally.specs.Holdings.{HeldPart}
use Rattle.tf_walk_action.specs.Journal.{entered_verdict}
use Rattle.tf_walk_action.specs.Outcome.{ActionResultView}
use Rattle.tf_walk_action.specs.ResultViews.{action_result_of, ended_action, result_by}
use Rattle.tf_walk_action.specs.declared.action_result.ActionResult.{ActionResult}
use Rattle.tf_walk_workers.specs.Calls.{HasParts, called_with, record_of, reported_by}
use Rattle.tf_walk_workers.specs.declared.call_record.CallRecord.{CallRecord}

entered_by : (q : Asked) (a : Option Answer) (v : Verdict) → entered_verdict (result_by q a v) ≡ Some v
entered_by q a verdict.Good = refl
entered_by q a verdict.Failed = refl
entered_by q a (verdict.Contradicted i) = refl
entered_by q a verdict.Malformed = refl
entered_by q a verdict.Excused = refl

-- the result of a recorded call reports that call
pub reported_recorded : (call : Call) (ended : ActionResult) → ended_action ended ≡ call.action → action_result_of ended ≡ result_by (asked call.request) (answered call.reply) call.verdict → reported_by ended ≡ record_of (entry_of call) ∷ []
reported_recorded call ended own is =
    ap₂ (λ (n : ℕ) (o : Option Verdict). called_with n o) own (ap entered_verdict is ∙ entered_by (asked call.request) (answered call.reply) call.verdict)

-- a part that reports a call, by the result of that call
pub tells_recorded : (table : TableId) (call recorded : Call) (ended : ActionResult) (part new : HeldPart CallRecord) → recorded ≡ call → ended_action ended ≡ recorded.action
    → action_result_of ended ≡ result_by (asked recorded.request) (answered recorded.reply) recorded.verdict → HasParts table 1 [] (record_of (entry_of call) ∷ []) part → new ≡ part → HasParts table 1 [] (reported_by ended) new
tells_recorded table call recorded ended part new same own is has now =
    let reported : reported_by ended ≡ record_of (entry_of call) ∷ [] = reported_recorded recorded ended own is ∙ ap (λ (c : Call). record_of (entry_of c) ∷ []) same in
    let old = subst (λ (p : HeldPart CallRecord). HasParts table 1 [] (record_of (entry_of call) ∷ []) p) (sym now) has in
    record { own = old.own; counts = old.counts; keeps = old.keeps; reports = old.reports ∙ sym reported }

-- a part that reports none, beside the result of an action that wasn't called
pub reports_none : (table : TableId) (plain ended result : ActionResult) (part new : HeldPart CallRecord) → result ≡ ended → ended ≡ plain → reported_by plain ≡ [] → new ≡ part → HasParts table 1 [] [] part → HasParts table 1 [] (reported_by result) new
reports_none table plain ended result part new is same none now has =
    let old = subst (λ (p : HeldPart CallRecord). HasParts table 1 [] [] p) (sym now) has in
    record { own = old.own; counts = old.counts; keeps = old.keeps; reports = old.reports ∙ sym (ap reported_by (is ∙ same) ∙ none) }
