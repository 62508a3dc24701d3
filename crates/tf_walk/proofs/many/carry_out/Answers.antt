-- what workers read may be shared by threads, and all parts come together
use denote.Param.Send.{sendable}
use Rattle.std.proofs.Common.{◌≡◌, ◌+◌, ◌∙◌, [], subst, vec_len}
use Rattle.atomic_table.specs.Seated.{TableId}
use Rattle.tf_walk_workers.specs.Calls.{HasParts, records_of}
use Rattle.tf_walk_workers.proofs.SharedPlan.{grounds_sync}
use Rattle.tf_walk.proofs.Wholeness.{merged_all}
use Rattle.tf_walk.proofs.many.carry_out.Goals as goal

pub share_out-seat-requires-sync-B : goal.share_out-seat-requires-sync-B
share_out-seat-requires-sync-B g c κs within = search (grounds_sync, sendable)

pub report_walk-walked-requires-clause-part : goal.report_walk-walked-requires-clause-part
report_walk-walked-requires-clause-part g c =
    let table = g.N.WalkBrand.table in
    let count = vec_len c.args.prepared.team.others + 1 in
    let idle = subst (λ (t : TableId). HasParts t count [] [] c.share_out-seat.result.part) c.requires.tally c.share_out-seat.ensures.part in
    let all = merged_all table count c.args.team c.args.plan.now.order.nodes (records_of c.into_parts-journal.result.0.entries) c.args.part c.share_out-seat.result.part c.into_parts-journal.result.1 c.merge.new.part c.merge-2.new.part
    c.requires.part idle c.into_parts-journal.ensures.keeper c.requires.prepared.counted (c.merge.ensures.same ∙ c.requires.tally) c.merge.ensures.merged (c.merge-2.ensures.same ∙ c.requires.tally) c.merge-2.ensures.merged c.requires.whole in
    all.has

pub report_walk-walked-requires-clause-whole : goal.report_walk-walked-requires-clause-whole
report_walk-walked-requires-clause-whole g c =
    let table = g.N.WalkBrand.table in
    let count = vec_len c.args.prepared.team.others + 1 in
    let idle = subst (λ (t : TableId). HasParts t count [] [] c.share_out-seat.result.part) c.requires.tally c.share_out-seat.ensures.part in
    let all = merged_all table count c.args.team c.args.plan.now.order.nodes (records_of c.into_parts-journal.result.0.entries) c.args.part c.share_out-seat.result.part c.into_parts-journal.result.1 c.merge.new.part c.merge-2.new.part
    c.requires.part idle c.into_parts-journal.ensures.keeper c.requires.prepared.counted (c.merge.ensures.same ∙ c.requires.tally) c.merge.ensures.merged (c.merge-2.ensures.same ∙ c.requires.tally) c.merge-2.ensures.merged c.requires.whole in
    all.whole
