-- The assignments before a file and then the file, or the next assignment, are moved to the end of the sources.
use Rattle.std.proofs.Common.{◌++◌, ◌∙◌, map, string_bytes, sym, ap}
use Rattle.std.specs.Vec.Iter.{into_iter_items}
use Rattle.tf_cli_options.specs.Reads.{assignments_in, files_in}
use Rattle.tf_cli_options.proofs.Woven.{assignment_moved, assignments_in-File, file_moved, files_in-Assignment}
use Rattle.tf_cli_options.proofs.sources.in_order.Goals as goal

pub loop-file-preserved : goal.loop-file-preserved
loop-file-preserved c =
    let pushed = c.push_assignments.new.sources.items in
    let files = into_iter_items c.next.new.self in
    let assignments = into_iter_items c.push_assignments.new.rest in (
      ap (λ s. files_in s ++ map (λ t. string_bytes t) files) c.in_ok-push.ensures.items
          ∙ file_moved pushed c.in-Some.file files
          ∙ ap (λ r. files_in pushed ++ map (λ t. string_bytes t) r) (sym c.in-Some.ensures.steps.0)
          ∙ ap (λ r. r ++ map (λ t. string_bytes t) (into_iter_items c.loop-file.file-iterator)) c.in_ok-push_assignments.ensures.files
          ∙ c.loop-file.invariant.0,
      ap (λ s. assignments_in s ++ map (λ t. string_bytes t) assignments) c.in_ok-push.ensures.items
          ∙ ap (λ r. r ++ map (λ t. string_bytes t) assignments) (assignments_in-File pushed c.in-Some.file)
          ∙ c.in_ok-push_assignments.ensures.assignments
          ∙ c.loop-file.invariant.1,
    )

pub loop-assignment-preserved : goal.loop-assignment-preserved
loop-assignment-preserved c =
    let sources = c.loop-assignment.sources.items in
    let rest = into_iter_items c.next-in-loop-assignment.new.self in (
      ap files_in c.in_ok-push-2.ensures.items ∙ files_in-Assignment sources c.in-Some-assignment.assignment ∙ c.loop-assignment.invariant.0,
      ap (λ s. assignments_in s ++ map (λ t. string_bytes t) rest) c.in_ok-push-2.ensures.items
          ∙ assignment_moved sources c.in-Some-assignment.assignment rest
          ∙ ap (λ r. assignments_in sources ++ map (λ t. string_bytes t) r) (sym c.in-Some-assignment.ensures.steps.0)
          ∙ c.loop-assignment.invariant.1,
    )
