-- the assignments so far are added
use Rattle.std.proofs.Common.{◌≡◌, ◌++◌, map, string_bytes}
use Rattle.std.specs.Vec.Iter.{into_iter_items}
use Rattle.tf_cli_options.specs.Reads.{assignments_in, files_in}
use Rattle.tf_cli_options.proofs.sources.push_assignments.Given as goal

abbrev pub invariant-loop-number : goal.invariant-loop-number
invariant-loop-number l =
    (files_in l.sources.items ≡ files_in l.fn.sources.items)
    × (assignments_in l.sources.items ++ map (λ t. string_bytes t) (into_iter_items l.rest) ≡ assignments_in l.fn.sources.items ++ map (λ t. string_bytes t) (into_iter_items l.fn.rest))
