use Rattle.std.proofs.Common.{◌≡◌, ◌∙◌, sym, true, false, arith}
use Rattle.tf_provider_log.specs.LogEntry.{log_entry_of}
use Rattle.tf_provider_log.specs.Replayed.{has_answer}
use Rattle.tf_provider_log.proofs.Passed.{counted_more}
use Rattle.tf_provider_log.proofs.entries.answer_count.Goals as goal
use Rattle.tf_provider_log.proofs.entries.answer_count.Goals.{then-has_answer, else-has_answer}

pub loop-entry-preserved : goal.loop-entry-preserved
loop-entry-preserved c =
    let more = counted_more log_entry_of has_answer c.args.entries.now c.loop-entry.entry-index c.entry-item.result c.loop-entry-test.true c.entry-item.is in
    let before = c.loop-entry.invariant in
    elim c.if-has_answer.branch [
      | then-has_answer w ↦
          let told : has_answer (log_entry_of c.entry-item.result) ≡ true = sym c.has_answer.ensures ∙ w.if-has_answer.true in
          let one = rw told at more in
          (omega (arith, one, before.0), omega (arith, before.1))
      | else-has_answer w ↦
          let not_told : has_answer (log_entry_of c.entry-item.result) ≡ false = sym c.has_answer.ensures ∙ w.if-has_answer.false in
          let none = rw not_told at more in
          (omega (arith, none, before.0), omega (arith, before.1))
    ]
