-- the replies to the stages passed are noted
use Rattle.std.proofs.Common.{◌≡◌, ◌++◌, drop, map, take}
use Rattle.tf_provider_log.specs.LogEntry.{log_entry_of}
use Rattle.tf_walk_requests.specs.Stages.{stage_of, with_reply}
use Rattle.tf_walk_requests.proofs.replies.note_replies.Given as goal

abbrev pub invariant-loop-stage : goal.invariant-loop-stage
invariant-loop-stage g l =
    let ms = map (λ b. (goal.Provider-dyn g (b.vtable, b.value)).meaning b.value) l.providers in
    let old = map stage_of l.fn.stages in
    map stage_of l.stages ≡ map (with_reply ms (map log_entry_of l.entries)) (take l.stage-index old) ++ drop l.stage-index old
