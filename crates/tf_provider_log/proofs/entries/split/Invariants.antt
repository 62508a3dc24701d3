-- the entries of the providers passed, before those that the others have of what is left
use Rattle.std.proofs.Common.{◌≡◌, ◌++◌, map, drop}
use Rattle.tf_provider_log.specs.LogEntry.{log_entry_of}
use Rattle.tf_provider_log.specs.Replayed.{own_entries}
use Rattle.tf_provider_log.proofs.entries.split.Given as goal

abbrev pub invariant-loop-provider : goal.invariant-loop-provider
invariant-loop-provider g l =
    map (λ own. map log_entry_of own.items) l.lists.items
    ++ own_entries (map (λ b. (goal.Provider-dyn g (b.vtable, b.value)).meaning b.value) (drop l.provider-index l.providers)) (map log_entry_of l.left.items)
    ≡ own_entries (map (λ b. (goal.Provider-dyn g (b.vtable, b.value)).meaning b.value) l.providers) (map log_entry_of l.fn.entries.items)
