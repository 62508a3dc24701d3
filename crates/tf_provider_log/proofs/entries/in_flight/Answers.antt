use Rattle.std.proofs.Common.{◌∙◌, ap, Some, map}
use Rattle.tf_provider_log.specs.LogEntry.{log_entry_of}
use Rattle.tf_provider_log.specs.Replayed.{open_of}
use Rattle.tf_provider_protocol.specs.Meaning.{asked}
use Rattle.tf_provider_log.proofs.Passed.{kept_and_added, kept_no_more}
use Rattle.tf_provider_log.proofs.entries.in_flight.Goals as goal
use Rattle.tf_provider_log.proofs.entries.in_flight.Goals.{in-Some+in_ok-request+in_ok-push, in_default}

pub loop-entry-preserved : goal.loop-entry-preserved
loop-entry-preserved c =
    let es = c.args.entries.now in
    elim c.match-open_of.branch [
      | in-Some+in_ok-request+in_ok-push w ↦
          rw (w.requests-is, w.in_ok-push.ensures.items)
          (kept_and_added log_entry_of (open_of (map log_entry_of es)) asked es c.loop-entry.entry-index c.entry-item.result _ _ c.loop-entry-test.true c.entry-item.is c.loop-entry.invariant (ap Some w.in_ok-request.ensures ∙ w.in-Some.ensures))
      | in_default w ↦
          rw w.requests-is
          (kept_no_more log_entry_of (open_of (map log_entry_of es)) asked es c.loop-entry.entry-index c.entry-item.result _ c.loop-entry-test.true c.entry-item.is c.loop-entry.invariant w.in_default.ensures)
    ]
