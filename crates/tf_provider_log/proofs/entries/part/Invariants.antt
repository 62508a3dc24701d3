-- the entries passed whose type the provider has, and the others
use Rattle.std.proofs.Common.{◌≡◌, map, filter, not}
use Rattle.tf_provider_log.specs.LogEntry.{log_entry_of}
use Rattle.tf_provider_log.specs.Replayed.{has_its_type}
use Rattle.tf_provider_log.proofs.entries.part.Given as goal

abbrev pub invariant-loop-entry : goal.invariant-loop-entry
invariant-loop-entry g l =
    let m = (goal.Provider-dyn g (l.provider.vtable, l.provider.value)).meaning l.provider.value in
    (map log_entry_of l.own.items ≡ filter (has_its_type m) (map log_entry_of l.yielded))
    × (map log_entry_of l.others.items ≡ filter (λ e. not (has_its_type m e)) (map log_entry_of l.yielded))
