-- The laws of recovery.
use Rattle.std.specs.Prelude.{◌≡◌, ◌++◌, ◌⊎◌, ℕ, List, ◌∷◌, [], take, Option}
use Rattle.tf_provider_log.specs.LogEntry.{LogEntryView}
use Rattle.tf_provider_log.specs.Header.{HeaderView}
use Rattle.tf_provider_log.specs.Laws.{AreLines, ReadsAsFar, joined}
use Rattle.tf_provider_log.specs.Line.{IsHeaderLine, lines_of}
use Rattle.tf_provider_log.specs.Replayed.{all_replayed, own_entries}
use Rattle.tf_provider_log.specs.True.{AreTrue}
use Rattle.tf_provider_protocol.specs.Meaning.{Meaning}
use Rattle.tf_cli_program.specs.Recovered.{IsRecovered}

-- If the entries of a log are true of some providers, what is recovered with providers that answer from their own entries is
-- recovered with the providers themselves: it is taken from an apply of the same texts by them.
abbrev pub RecoveredIsApplied : Type 0
RecoveredIsApplied =
    (ms : List Meaning) (es : List LogEntryView) (given : HeaderView) (answers : ℕ) (state : Option (List ℕ))
    → AreTrue ms es → IsRecovered (all_replayed (own_entries ms es) ms) given answers state → IsRecovered ms given answers state

-- A beginning of a log with a whole first line reads as exactly its whole lines, and what is recovered from these entries, with
-- providers that answer from their own entries, is recovered with the providers themselves.
pub record RecoversAsFar (ms : List Meaning) (given : HeaderView) (written : List ℕ) (es : List LogEntryView) (texts : List (List ℕ)) (bytes : List ℕ) : Type 0 where
  pub read : ReadsAsFar given written es texts bytes
  pub recovered : (answers : ℕ) (state : Option (List ℕ)) → IsRecovered (all_replayed (own_entries ms (take read.n es)) ms) given answers state → IsRecovered ms given answers state

-- So it is for each beginning, cut at any byte, of a log that was written line by line with entries that are true of some providers,
-- unless no line in it is whole.
abbrev pub CutLogsAreRecovered : Type 0
CutLogsAreRecovered =
    (ms : List Meaning) (given : HeaderView) (written : List ℕ) (es : List LogEntryView) (texts : List (List ℕ)) (bytes rest : List ℕ)
    → AreTrue ms es → IsHeaderLine given written → AreLines es texts → bytes ++ rest ≡ written ++ joined texts
    → (lines_of bytes ≡ []) ⊎ RecoversAsFar ms given written es texts bytes

-- Some of the lines of a log, in their order: entries, each with its text.
pub data AreSome : List LogEntryView → List (List ℕ) → List LogEntryView → List (List ℕ) → Type 0 where
  nothing : AreSome [] [] [] []
  keeps : (e : LogEntryView) (text : List ℕ) (some es : List LogEntryView) (some_texts texts : List (List ℕ))
      → AreSome some some_texts es texts → AreSome (e ∷ some) (text ∷ some_texts) (e ∷ es) (text ∷ texts)
  loses : (e : LogEntryView) (text : List ℕ) (some es : List LogEntryView) (some_texts texts : List (List ℕ))
      → AreSome some some_texts es texts → AreSome some some_texts (e ∷ es) (text ∷ texts)

-- So it is too if only some of the lines after the first are left, as after a loss of power, and these are cut at any byte.
abbrev pub KeptLinesAreRecovered : Type 0
KeptLinesAreRecovered =
    (ms : List Meaning) (given : HeaderView) (written : List ℕ) (es some : List LogEntryView) (texts some_texts : List (List ℕ)) (bytes rest : List ℕ)
    → AreTrue ms es → IsHeaderLine given written → AreLines es texts → AreSome some some_texts es texts
    → bytes ++ rest ≡ written ++ joined some_texts
    → (lines_of bytes ≡ []) ⊎ RecoversAsFar ms given written some some_texts bytes
