-- one reply more is noted
use Rattle.std.proofs.Common.{map, subst, sym}
use Rattle.tf_provider_log.specs.LogEntry.{log_entry_of}
use Rattle.tf_walk_requests.proofs.Finding.{current_at, one_more}
use Rattle.tf_walk_requests.specs.Stages.{IsFullyRequested, stage_of, with_reply}
use Rattle.tf_walk_requests.proofs.replies.note_replies.Goals as goal

pub note_reply-requires : goal.note_reply-requires
note_reply-requires g c =
    let ms = map (λ b. (goal.Provider-dyn g (b.vtable, b.value)).meaning b.value) c.args.providers.now in
    let f = with_reply ms (map log_entry_of c.args.entries.now) in
    let i = c.loop-stage.stage-index in
    let d = c.stage-item.result in
    subst (IsFullyRequested ms) (sym (current_at stage_of f c.args.stages.now c.loop-stage.stages i d c.loop-stage-test.true c.loop-stage.auto.stages c.loop-stage.invariant)) (c.requires i d c.loop-stage-test.true)

pub loop-stage-preserved : goal.loop-stage-preserved
loop-stage-preserved g c =
    let ms = map (λ b. (goal.Provider-dyn g (b.vtable, b.value)).meaning b.value) c.args.providers.now in
    one_more stage_of (with_reply ms (map log_entry_of c.args.entries.now)) c.args.stages.now c.loop-stage.stages c.loop-stage.stage-index c.stage-item.result _ c.loop-stage-test.true c.loop-stage.auto.stages c.loop-stage.invariant c.note_reply.ensures
