-- the edges that are left decide
use Rattle.std.proofs.Common.{◌≡◌, drop}
use Rattle.std.specs.List.{list_all}
use Rattle.tf_provider.specs.Entries.{actions_of, follows}
use Rattle.tf_provider.proofs.journal.follow_all.Given as goal

abbrev pub invariant-loop-first : goal.invariant-loop-first
invariant-loop-first l = list_all (follows (actions_of l.entries)) l.edges ≡ list_all (follows (actions_of l.entries)) (drop l.first-index l.edges)
