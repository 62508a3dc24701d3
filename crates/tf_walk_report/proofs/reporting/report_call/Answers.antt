use Rattle.std.proofs.Common.{◌≡◌, ◌∙◌, true, sym, ap, subst, Option, option_map}
use Rattle.std.specs.Prelude.{IfSome}
use Rattle.tf_config_address.specs.ResourceAddr.{addr_of}
use Rattle.tf_provider_protocol.specs.Meaning.{asked, answered}
use Rattle.tf_provider_protocol.specs.declared.request.Op.TheVariants.{Create}
use Rattle.tf_provider_protocol.specs.declared.request.Reply.{Reply}
use Rattle.tf_provider_protocol.specs.declared.request.Request.{Request}
use Rattle.tf_provider_protocol.specs.declared.verdict.Verdict.{Verdict}
use Rattle.tf_state.specs.Valid.{IsAttributes}
use Rattle.tf_state_next.specs.Saved.{formed_in, left_by_destroy}
use Rattle.tf_value_data.specs.Nulls.{with_nulls}
use Rattle.tf_value_data.specs.Tree.{Tree, tree_of}
use Rattle.tf_walk_action.proofs.Storable.{planned-there, planned-stored}
use Rattle.tf_walk_action.specs.Storable.{has_stored_attributes}
use Rattle.tf_walk_report.specs.ActionReport.{IsAdded}
use Rattle.tf_walk_report.specs.Change.{changed_by_call, saved_by}
use Rattle.tf_state_next.specs.Ends.{as_applied}
use Rattle.tf_walk_buffers.specs.BuffersHead.{buffers_head, target_of}
use Rattle.tf_walk_report.proofs.Called.{change-stored}
use Rattle.tf_walk_report.proofs.Stored.{left-stored, saved-stored, stored_of, tested_stored, there_of}
use Rattle.tf_walk_report.proofs.reporting.report_call.Goals as goal

pub add_change-requires-clause-fallback : goal.add_change-requires-clause-fallback
add_change-requires-clause-fallback c create =
    let q = c.args.served.call.request in
    there_of c.fallback_for-fallback.result (option_map tree_of q.object)
    (c.fallback_for-fallback.ensures create ∙ ap (λ (x : Request). option_map with_nulls (option_map tree_of x.object)) c.into_report-request.ensures.request)
    (planned-there q.op (c.requires.op ∙ create) (option_map tree_of q.object) c.args.served.planned)

pub returns-clause-added : goal.returns-clause-added
returns-clause-added c =
    let q = c.args.served.call.request in
    let answer = answered c.args.served.call.reply in
    let schema = c.args.schema.now in
    let formed = c.open_reply-formed.ensures.formed ∙ ap (λ (r : Reply). formed_in schema (answered r)) c.into_report-request.ensures.reply in
    subst (λ (v : Verdict). IsAdded (changed_by_call (buffers_head c.args.room) schema (asked q) answer v) c.args.events.now c.add_change.new.events) c.verdict-verdict.ensures
    (c.add_change.ensures.added schema (asked q) answer (c.verdict-verdict.ensures ∙ c.requires.verdict) formed
    (λ create. sym (c.fallback_for-fallback.ensures create ∙ ap (λ (x : Request). option_map with_nulls (option_map tree_of x.object)) c.into_report-request.ensures.request)))

pub returns-clause-stored : goal.returns-clause-stored
returns-clause-stored c =
    let served = c.args.served in
    let q = served.call.request in
    let r = asked q in
    let answer = answered served.call.reply in
    let v = served.call.verdict in
    let schema = c.args.schema.now in
    let wanted = option_map tree_of q.object in
    let fallback = c.fallback_for-fallback.result in
    let formed_is = c.open_reply-formed.ensures.formed ∙ ap (λ (x : Reply). formed_in schema (answered x)) c.into_report-request.ensures.reply in
    let formed = stored_of c.open_reply-formed.result.0 _ formed_is c.open_reply-formed.ensures.stored in
    let stands : c.args.room.op ≡ Create → option_map (λ o. tree_of o.value) fallback ≡ option_map with_nulls wanted =
    λ create. c.fallback_for-fallback.ensures create ∙ ap (λ (x : Request). option_map with_nulls (option_map tree_of x.object)) c.into_report-request.ensures.request in
    change-stored (addr_of c.args.room.addr.now) (target_of c.args.room.target) (as_applied (saved_by c.args.room.op schema r answer v)) (left_by_destroy schema answer v)
    (saved-stored c.args.room.op schema r answer v c.requires.verdict formed
    (λ create malformed. subst (λ (x : Option Tree). IfSome x IsAttributes) (stands create)
    (tested_stored fallback (c.can_be_saved-stored.ensures (c.verdict-verdict.ensures ∙ malformed))
    (subst (λ (x : Option Tree). IfSome x (λ t. has_stored_attributes t ≡ true)) (sym (stands create)) (planned-stored q.op (c.requires.op ∙ create) wanted served.planned)))))
    (left-stored schema answer v formed) c.add_change.ensures.versioned
