use Rattle.std.proofs.Common.{◌≡◌, ◌∙◌, sym, ap, map, Some, string_bytes, option_map, subst}
use Rattle.tf_provider_protocol.specs.Meaning.{asked, answered, schema_in}
use Rattle.tf_provider_protocol.specs.declared.request.Request.{Request}
use Rattle.tf_walk_report.specs.ActionReport.{IsJudged}
use Rattle.tf_walk_action.specs.ResultViews.{result_or_skipped}
use Rattle.tf_walk_action.specs.declared.action_result.ActionResult.TheVariants as ended
use Rattle.tf_walk_report.proofs.Judged.{judged-by}
use Rattle.tf_walk_report.proofs.reporting.report_action.Goals as goal

pub report_call-requires-clause-verdict : goal.report_call-requires-clause-verdict
report_call-requires-clause-verdict g c =
    let ms = map (λ b. (goal.Provider-dyn g (b.vtable, b.value)).meaning b.value) c.args.providers.now in
    let j = c.in-Some-Called.served in
    let judged : IsJudged ms c.args.room.op (result_or_skipped (Some (ended.Called j))) = subst (λ o. IsJudged ms c.args.room.op (result_or_skipped o)) (c.in-Some-Called.is ∙ ap Some c.in-Some-Called.field-0-is) c.requires.judged in
    let there : schema_in (string_bytes j.call.request.type_name) ms ≡ Some c.in-Some.schema.now =
    sym (sym (ap (option_map (λ s. s.now)) c.in-Some.is) ∙ (c.schema_for.ensures ∙ (ap (λ name. schema_in name ms) c.as_str.ensures.value ∙ ap (λ (r : Request). schema_in (string_bytes r.type_name) ms) c.request.ensures))) in
    judged-by ms (asked j.call.request) (answered j.call.reply) j.call.verdict c.in-Some.schema.now judged.0 there

pub report_call-requires-clause-op : goal.report_call-requires-clause-op
report_call-requires-clause-op g c =
    let ms = map (λ b. (goal.Provider-dyn g (b.vtable, b.value)).meaning b.value) c.args.providers.now in
    let j = c.in-Some-Called.served in
    let judged : IsJudged ms c.args.room.op (result_or_skipped (Some (ended.Called j))) = subst (λ o. IsJudged ms c.args.room.op (result_or_skipped o)) (c.in-Some-Called.is ∙ ap Some c.in-Some-Called.field-0-is) c.requires.judged in
    judged.1
