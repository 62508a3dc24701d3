-- the replies are noted, and then the actions are requested that are ready
use Rattle.std.proofs.Common.{◌∙◌, List, ap, arith, map, subst}
use Rattle.std.proofs.lemmas.List.{with_items_is}
use Rattle.tf_plan_data.specs.Plan.{plan_of}
use Rattle.tf_provider_log.specs.LogEntry.{log_entry_of}
use Rattle.tf_walk_requests.proofs.Reached.{reached_noted}
use Rattle.std.specs.Prelude.{IfOk}
use Rattle.tf_provider_protocol.specs.Meaning.{asked}
use Rattle.tf_walk_requests.proofs.Stepping.{all_full, round_through}
use Rattle.tf_walk_requests.specs.Progress.{IsReadyRound}
use Rattle.tf_walk_requests.specs.Stages.{StageView, stage_of, with_reply}
use Rattle.tf_walk_requests.specs.declared.stage.Stage.{Stage}
use Rattle.tf_walk_requests.proofs.progress.PlanProgress.next_requests.Goals as goal

pub note_replies-requires : goal.note_replies-requires
note_replies-requires g c =
    let ms = map (λ b. (goal.Provider-dyn g (b.vtable, b.value)).meaning b.value) c.args.providers.now in
    rw c.as_mut_slice-stages.ensures.value (all_full ms (plan_of c.args.planned.now) (map log_entry_of c.args.entries.now) c.args.self.now.stages.items c.requires.reached)

pub ready_requests-requires-clause-reached : goal.ready_requests-requires-clause-reached
ready_requests-requires-clause-reached g c =
    let ms = map (λ b. (goal.Provider-dyn g (b.vtable, b.value)).meaning b.value) c.args.providers.now in
    rw (c.note_replies.ensures, c.as_mut_slice-stages.ensures.value, c.planned.view_is) (reached_noted ms (plan_of c.args.planned.now) (map log_entry_of c.args.entries.now) (map stage_of c.args.self.now.stages.items) c.requires.reached)

pub returns : goal.returns
returns g c =
    let ms = map (λ b. (goal.Provider-dyn g (b.vtable, b.value)).meaning b.value) c.args.providers.now in
    let plan = plan_of c.args.planned.now in
    let es = map log_entry_of c.args.entries.now in
    let new = map stage_of c.ready_requests.new.stages in
    let noted = c.note_replies.ensures ∙ ap (λ (stages : List Stage). map (with_reply ms es) (map stage_of stages)) c.as_mut_slice-stages.ensures.value in
    let done = subst (λ (old : List StageView). IfOk c.ready_requests.result (λ requests. IsReadyRound ms plan es old new (map asked requests.items))) noted (rw (← c.planned.view_is) c.ready_requests.ensures) in
    rw (with_items_is c.args.self.now.stages c.ready_requests.new.stages (omega arith)) (round_through c.ready_requests.result ms plan es (map stage_of c.args.self.now.stages.items) new done)
