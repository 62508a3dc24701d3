-- The providers of the programs, as they answer from a log.
use Rattle.std.specs.Prelude.{List, [], ◌∷◌}
use Rattle.tf_provider_local.specs.Answers.{file_meaning}
use Rattle.tf_provider_log.specs.LogEntry.{LogEntryView}
use Rattle.tf_provider_log.specs.Replayed.{all_replayed, own_entries}
use Rattle.tf_provider_protocol.specs.Meaning.{Meaning}
use Rattle.tf_provider_sim.specs.Table.{sim_meaning}

-- the program's own providers, in their order
abbrev pub program_meanings : List Meaning
program_meanings = sim_meaning ∷ file_meaning ∷ []

-- the providers outside the program, as one, and then its own
abbrev pub outside_meanings : Meaning → List Meaning
outside_meanings remote = remote ∷ program_meanings

-- each of them, answering from its own entries of a log
abbrev pub outside_replayed : Meaning → List LogEntryView → List Meaning
outside_replayed remote es = all_replayed (own_entries (outside_meanings remote) es) (outside_meanings remote)
