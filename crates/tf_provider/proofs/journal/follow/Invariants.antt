-- the entries that are left decide
use Rattle.std.proofs.Common.{◌≡◌, drop}
use Rattle.tf_provider.specs.Entries.{actions_of, follows}
use Rattle.tf_provider.proofs.journal.follow.Given as goal

abbrev pub invariant-loop-entry : goal.invariant-loop-entry
invariant-loop-entry l = follows (actions_of l.entries) (l.first, l.second) ≡ follows (actions_of (drop l.entry-index l.entries)) (l.first, l.second)
