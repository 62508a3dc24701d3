-- What is recovered of a log that was cut.
use Rattle.std.proofs.Common.{◌≡◌, ℕ, List, [], inl, inr, subst}
use Rattle.std.specs.Prelude.{◌⊎◌, ◌<◌, length, take}
use Rattle.tf_provider_log.specs.LogEntry.{LogEntryView}
use Rattle.tf_provider_log.specs.Header.{HeaderView}
use Rattle.tf_provider_log.specs.Laws.{ReadsAsFar}
use Rattle.tf_provider_log.specs.Line.{lines_of}
use Rattle.tf_provider_log.proofs.Replays.{beginnings_are_true, replayed_are_themselves}
use Rattle.tf_provider_log.specs.True.{AreTrue}
use Rattle.tf_provider_protocol.specs.Meaning.{Meaning}
use Rattle.tf_cli_program.specs.Laws.{RecoversAsFar}
use Rattle.tf_cli_program.specs.Recovered.{IsRecovered}

pub as_far : (ms : List Meaning) (given : HeaderView) (written : List ℕ) (es : List LogEntryView) (texts : List (List ℕ)) (bytes : List ℕ) → AreTrue ms es
    → ((length bytes < length written) × (lines_of bytes ≡ [])) ⊎ ReadsAsFar given written es texts bytes
    → (lines_of bytes ≡ []) ⊎ RecoversAsFar ms given written es texts bytes
as_far ms given written es texts bytes h (inl none) = inl none.1
as_far ms given written es texts bytes h (inr far) = inr record {
  read = far;
  recovered = λ answers state r. subst (λ (ns : List Meaning). IsRecovered ns given answers state) (replayed_are_themselves ms (take far.n es) (beginnings_are_true ms far.n es h)) r;
}
