-- Some of the lines of a log have what all of them have.
use Rattle.std.proofs.Common.{ℕ, List, [], ◌∷◌}
use Rattle.std.proofs.lemmas.List.Elements.{All-cons, All-head, All-nil, All-tail}
use Rattle.tf_provider_log.specs.Laws.{AreLines}
use Rattle.tf_provider_log.specs.LogEntry.{LogEntryView}
use Rattle.tf_provider_log.specs.True.{AreTrue, IsTrueAmong}
use Rattle.tf_provider_protocol.specs.Meaning.{Meaning}
use Rattle.tf_cli_program.specs.Laws.{AreSome, keeps, loses, nothing}

pub some_are_true : (ms : List Meaning) (some es : List LogEntryView) (some_texts texts : List (List ℕ)) → AreSome some some_texts es texts → AreTrue ms es → AreTrue ms some
some_are_true ms _ _ _ _ nothing h = All-nil (IsTrueAmong ms)
some_are_true ms _ _ _ _ (keeps e text some es some_texts texts rest) h =
    All-cons (IsTrueAmong ms) e some (All-head (IsTrueAmong ms) e es h) (some_are_true ms some es some_texts texts rest (All-tail (IsTrueAmong ms) e es h))
some_are_true ms _ _ _ _ (loses e text some es some_texts texts rest) h = some_are_true ms some es some_texts texts rest (All-tail (IsTrueAmong ms) e es h)

pub some_are_lines : (some es : List LogEntryView) (some_texts texts : List (List ℕ)) → AreSome some some_texts es texts → AreLines es texts → AreLines some some_texts
some_are_lines _ _ _ _ nothing h = h
some_are_lines _ _ _ _ (keeps e text some es some_texts texts rest) h = (h.0, some_are_lines some es some_texts texts rest h.1)
some_are_lines _ _ _ _ (loses e text some es some_texts texts rest) h = some_are_lines some es some_texts texts rest h.1
