use Rattle.std.proofs.Common.{◌≡◌, drop}
use Rattle.std.specs.List.{list_all}
use Rattle.tf_provider.specs.Entries.{is_marked}
use Rattle.tf_provider.proofs.journal.all_marked.Given as goal

abbrev pub invariant-loop-action : goal.invariant-loop-action
invariant-loop-action l =
    list_all (is_marked l.marks) l.actions ≡ list_all (is_marked l.marks) (drop l.action-index l.actions)
