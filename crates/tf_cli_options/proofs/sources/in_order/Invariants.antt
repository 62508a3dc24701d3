-- the files so far are added, and the assignments before them
use Rattle.std.proofs.Common.{◌≡◌, ◌++◌, map, string_bytes}
use Rattle.std.specs.Vec.Iter.{into_iter_items}
use Rattle.tf_cli_options.specs.Reads.{assignments_in, files_in}
use Rattle.tf_cli_options.proofs.sources.in_order.Given as goal

abbrev pub invariant-loop-file : goal.invariant-loop-file
invariant-loop-file l =
    (files_in l.sources.items ++ map (λ t. string_bytes t) (into_iter_items l.file-iterator) ≡ map (λ t. string_bytes t) l.fn.files.items)
    × (assignments_in l.sources.items ++ map (λ t. string_bytes t) (into_iter_items l.rest) ≡ map (λ t. string_bytes t) l.fn.assignments.items)

abbrev pub invariant-loop-assignment : goal.invariant-loop-assignment
invariant-loop-assignment l =
    (files_in l.sources.items ≡ map (λ t. string_bytes t) l.fn.files.items)
    × (assignments_in l.sources.items ++ map (λ t. string_bytes t) (into_iter_items l.assignment-iterator) ≡ map (λ t. string_bytes t) l.fn.assignments.items)
