-- the entry at the place is about the request, or the search goes on
use Rattle.std.proofs.Common.{◌∙◌, sym}
use Rattle.tf_provider_log.specs.LogEntry.{log_entry_of}
use Rattle.tf_provider_log.specs.Replayed.{is_about}
use Rattle.tf_provider_protocol.specs.Meaning.{asked}
use Rattle.tf_walk_requests.proofs.Finding.{found_here, not_here}
use Rattle.tf_walk_requests.proofs.replies.place_about.Goals as goal

pub returns-then-is_begun-clause-first : goal.returns-then-is_begun-clause-first
returns-then-is_begun-clause-first c =
    sym (c.loop-place.invariant ∙ found_here log_entry_of (is_about (asked c.args.request.now)) c.args.entries.now c.loop-place.place c.loop-place-test.true (sym c.is_begun.ensures ∙ c.if-is_begun.true))

pub loop-place-preserved : goal.loop-place-preserved
loop-place-preserved c = c.loop-place.invariant ∙ not_here log_entry_of (is_about (asked c.args.request.now)) c.args.entries.now c.loop-place.place c.loop-place-test.true (sym c.is_begun.ensures ∙ c.if-is_begun.false)
